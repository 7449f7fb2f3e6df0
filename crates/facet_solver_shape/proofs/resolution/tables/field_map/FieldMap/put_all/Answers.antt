use Rattle.std.proofs.Common.{◌∙◌, ap, sym, map, subst, T}
use Rattle.std.specs.FinMap.{is_sorted}
use Rattle.std.specs.List.{AllByRecursion}
use Rattle.facet_solver_shape.specs.Keys.{key_cmp}
use Rattle.facet_solver_shape.specs.Fields.{entry_view, IsStored, key_of_field, field_entries_view}
use Rattle.facet_solver_shape.proofs.Fields.{rising_test}
use Rattle.facet_solver_shape.proofs.Keys.{key_cmp_total}
use Rattle.facet_solver_shape.proofs.Resolved.{at_start, one_put, at_end}
use Rattle.facet_solver_shape.proofs.resolution.tables.field_map.FieldMap.put_all.Goals as goal

pub loop-info-init : goal.loop-info-init
loop-info-init c =
    let seen = c.into_iter-info-iterator.ensures.into_iter_gives.0 in
    let rising = rising_test key_cmp (map entry_view c.upper.inside.entries.entries) c.upper.invariant.rising in (
      ap field_entries_view seen ∙ c.upper.view_is,
      at_start _ _ (subst (λ es. T (is_sorted key_cmp (map entry_view es))) (sym seen) rising),
      subst (λ es. AllByRecursion IsStored (map entry_view es)) (sym seen) c.upper.invariant.stored,
    )

pub loop-info-preserved : goal.loop-info-preserved
loop-info-preserved c =
    let before = rw c.in-Some.ensures.steps at c.loop-info.invariant.1 in
    let stored = rw c.in-Some.ensures.steps at c.loop-info.invariant.2 in
    (c.loop-info.invariant.0, rw (c.in_ok-insert.ensures.ok, ← (stored.0 ∙ ap key_of_field (sym c.in_ok-made.ensures)), c.in_ok-made.ensures) (one_put key_cmp_total _ _ _ _ _ _ before), stored.1)

pub returns : goal.returns
returns c =
    let done = rw c.in-None.ensures.steps.0 at c.loop-info.invariant.1 in
    rw (← c.loop-info.invariant.0) (at_end key_cmp_total _ _ _ done)
