-- A variant more is counted where the test says that it is a unit of the name.
use Rattle.std.proofs.Common.{refl, ◌≡◌, Some, slice_get, map, arith, rules, true, false}
use Rattle.std.proofs.lemmas.List.{length-map}
use Rattle.std.proofs.lemmas.Option.{slice_get_read}
use Rattle.facet_solver_reader.specs.Readings.{ReadsValue}
use Rattle.facet_solver_reader.specs.Tables.{rules_at}
use Rattle.facet_solver_reader.specs.Views.{named_view}
use Rattle.facet_solver_reader.proofs.CountingValues.{count_units_next}
use Rattle.facet_solver_reader.proofs.NamedVariants.{count_units_all}
use Rattle.facet_solver_reader.proofs.Seen.{seen_at}
use Rattle.facet_solver_reader.proofs.count.variant.count_units.Goals as goal
use Rattle.facet_solver_reader.proofs.count.variant.count_units.Goals.{then-variant, else-variant}

pub loop-variant-preserved : goal.loop-variant-preserved
loop-variant-preserved c =
    let there : slice_get c.args.variants.now c.loop-variant.variant-index
    ≡ Some c.variant-item.result =
    slice_get_read _ _ _ _ refl c.loop-variant-test.true c.variant-item.is in
    let fits : c.if-variant.from ≡ true
    → (c.variant-item.result.is_unit ≡ true) × (c.variant-item.result.name.now ≡ c.args.name.now) =
    λ e. elim c.if-variant.branch [
      | then-variant w ↦ (w.if-variant.true, search (rules, e))
      | else-variant w ↦ absurd (cc)
    ] in
    let fails : c.if-variant.from ≡ false → c.variant-item.result.is_unit ≡ true
    → c.variant-item.result.name.now ≡ c.args.name.now → ⊥ =
    λ e unit named. elim c.if-variant.branch [
      | then-variant w ↦ search (rules, e, unit, named)
      | else-variant w ↦ search (rules, e, unit, named)
    ] in
    rw (c.plus-count.ensures, c.from.ensures)
    (count_units_next (map named_view c.args.variants.now) c.args.name.now
    c.loop-variant.variant-index (named_view c.variant-item.result) c.loop-variant.count
    c.if-variant.from
    (seen_at named_view c.args.variants.now c.loop-variant.variant-index c.variant-item.result
    there)
    fits fails c.loop-variant.invariant)

pub returns : goal.returns
returns c =
    count_units_all (ReadsValue (rules_at c.args.tables.now)) (map named_view c.args.variants.now)
    c.args.name.now c.loop-variant.variant-index c.loop-variant.count
    (omega (arith, length-map c.args.variants.now named_view)) c.loop-variant.invariant
