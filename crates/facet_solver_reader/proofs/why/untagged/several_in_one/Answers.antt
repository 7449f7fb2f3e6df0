use Rattle.std.proofs.Common.{length, refl}
use Rattle.std.proofs.lemmas.Option.{slice_get_read}
use Rattle.facet_solver_reader.specs.Nodes.{value_of}
use Rattle.facet_solver_reader.specs.Rules.{Alternative}
use Rattle.facet_solver_reader.specs.Tables.{IsServed}
use Rattle.facet_solver_reader.specs.Views.{alternative_view}
use Rattle.facet_solver_reader.proofs.InMemory.{at_seen}
use Rattle.facet_solver_reader.proofs.why.untagged.several_in_one.Goals as goal

pub into-requires-clause-served : goal.into-requires-clause-served
into-requires-clause-served c =
    let i = c.loop-alternative.alternative-index in
    let xs = c.args.alone.now in
    at_seen (λ (a : Alternative). IsServed c.args.tables.now a.content) alternative_view xs i
    c.alternative-item.result
    (slice_get_read xs (length xs) i c.alternative-item.result refl c.loop-alternative-test.true
    c.alternative-item.is)
    c.requires.alone

pub returns-then-is_some-2-clause-next : goal.returns-then-is_some-2-clause-next
returns-then-is_some-2-clause-next c =
    c.in_ok-next-2.ensures.next (value_of c.args.nodes.now c.args.node)
