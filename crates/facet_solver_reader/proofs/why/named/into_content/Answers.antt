use Rattle.std.proofs.Common.{refl, length}
use Rattle.std.proofs.lemmas.Option.{slice_get_read}
use Rattle.facet_solver_reader.specs.Rules.{NamedVariant}
use Rattle.facet_solver_reader.specs.Tables.{IsServed}
use Rattle.facet_solver_reader.specs.Views.{named_view}
use Rattle.facet_solver_reader.proofs.InMemory.{at_seen}
use Rattle.facet_solver_reader.proofs.why.named.into_content.Goals as goal

pub into_variant-requires-clause-served : goal.into_variant-requires-clause-served
into_variant-requires-clause-served c =
    let i = c.loop-variant.variant-index in
    let xs = c.args.variants.now in
    at_seen (λ (a : NamedVariant). IsServed c.args.tables.now a.content) named_view xs i
    c.variant-item.result
    (slice_get_read xs (length xs) i c.variant-item.result refl c.loop-variant-test.true
    c.variant-item.is)
    c.requires.served

pub returns-then-is_some-clause-next : goal.returns-then-is_some-clause-next
returns-then-is_some-clause-next c = λ v. c.in_ok-next.ensures.next v
