use Rattle.std.proofs.Common.{length, refl, subst}
use Rattle.std.proofs.lemmas.Option.{slice_get_read}
use Rattle.facet_solver_reader.specs.Nodes.{value_of}
use Rattle.facet_solver_reader.specs.Rules.{Alternative}
use Rattle.facet_solver_reader.specs.Tables.{IsServed}
use Rattle.facet_solver_reader.specs.Views.{alternative_view, target_view}
use Rattle.facet_solver_reader.specs.Blaming.{IsWithin}
use Rattle.facet_solver_reader.specs.declared.end.Alternative as code
use Rattle.facet_solver_reader.proofs.InMemory.{at_seen}
use Rattle.facet_solver_reader.proofs.why.untagged.none_in_untagged.Goals as goal

pub into-requires-clause-served : goal.into-requires-clause-served
into-requires-clause-served c =
    let xs = c.args.alone.now in
    let i = c.in-One.index in
    subst (λ (x : code.Alternative). IsServed c.args.tables.now (target_view x.content))
    c.index-alone-index.is
    (at_seen (λ (a : Alternative). IsServed c.args.tables.now a.content) alternative_view xs i
    c.index-alone-index.result
    (slice_get_read xs (length xs) i c.index-alone-index.result refl
    (subst (IsWithin (length xs)) c.in-One.is c.in_ok-readers.ensures) c.index-alone-index.is)
    c.requires.alone)

pub returns-in-One-clause-next : goal.returns-in-One-clause-next
returns-in-One-clause-next c = c.into.ensures.next (value_of c.args.nodes.now c.args.node)
