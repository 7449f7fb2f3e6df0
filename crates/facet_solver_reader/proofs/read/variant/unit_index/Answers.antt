-- The first variant that the test takes is a unit of the name, and one is there.
use Rattle.std.proofs.Common.{◌≡◌, arith, length, map, refl, rules, subst, sym}
use Rattle.std.proofs.lemmas.List.{length-map}
use Rattle.std.proofs.lemmas.Option.{slice_get_read}
use Rattle.facet_solver_reader.specs.declared.count.Count.TheVariants.{None as NoCount}
use Rattle.facet_solver_reader.specs.Choices.{a_value, a_variant}
use Rattle.facet_solver_reader.specs.Values.{NamesUnit}
use Rattle.facet_solver_reader.specs.Views.{named_view}
use Rattle.facet_solver_reader.proofs.NamedVariants.{count_units_all, count_units_same}
use Rattle.facet_solver_reader.proofs.Seen.{seen_at}
use Rattle.facet_solver_reader.proofs.read.variant.unit_index.Goals as goal
use Rattle.facet_solver_reader.proofs.read.variant.unit_index.Goals.{
  else-variant-via-then-variant+else-eq,
  else-variant-via-else-variant,
}

pub returns-then-eq-clause-chosen : goal.returns-then-eq-clause-chosen
returns-then-eq-clause-chosen c =
    let there = seen_at named_view c.args.variants.now c.loop-k.k c.index-variants-k.result
    (slice_get_read c.args.variants.now (length c.args.variants.now) c.loop-k.k
    c.index-variants-k.result refl c.loop-k-test.true c.index-variants-k.is) in
    let named : c.index-variants-k.result.name.now ≡ c.args.name.now = search rules in
    subst (λ o. NamesUnit o c.args.name.now) (sym there) (c.if-variant.true, named)

pub loop-k-preserved : goal.loop-k-preserved
loop-k-preserved c =
    let there = seen_at named_view c.args.variants.now c.loop-k.k c.index-variants-k.result
    (slice_get_read c.args.variants.now (length c.args.variants.now) c.loop-k.k
    c.index-variants-k.result refl c.loop-k-test.true c.index-variants-k.is) in
    count_units_same (map named_view c.args.variants.now) c.args.name.now c.loop-k.k
    (named_view c.index-variants-k.result) NoCount there
    (λ unit named. elim c.else-variant.branch [
      | else-variant-via-then-variant+else-eq w ↦ search (rules, named)
      | else-variant-via-else-variant w ↦ search (rules, unit)
    ])
    c.loop-k.invariant

pub unreachable-requires : goal.unreachable-requires
unreachable-requires c =
    count_units_all (λ t v r. ⊥) (map named_view c.args.variants.now) c.args.name.now c.loop-k.k
    NoCount (omega (arith, length-map c.args.variants.now named_view)) c.loop-k.invariant
    (a_variant c.requires.named.0 a_value) c.requires.named.1
