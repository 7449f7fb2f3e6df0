use Rattle.std.proofs.Common.{◌∙◌, ap}
use Rattle.std.specs.FinMap.{from_entries}
use Rattle.facet_solver_shape.specs.Keys.{category_cmp}
use Rattle.facet_solver_shape.proofs.Fields.{catch_alls_rising}
use Rattle.facet_solver_shape.proofs.Keys.{category_cmp_total}
use Rattle.facet_solver_shape.proofs.Resolved.{at_start, one_put, at_end}
use Rattle.facet_solver_shape.proofs.resolution.tables.catch_alls.CatchAlls.put_all.Goals as goal

pub loop-category-init : goal.loop-category-init
loop-category-init c =
    let gives = c.into_iter-category-iterator.ensures.into_iter_gives in
    (ap (from_entries {R = category_cmp}) gives.0 ∙ c.upper.view_is, at_start _ _ (rw gives.0 (catch_alls_rising _ gives.5)))

pub loop-category-preserved : goal.loop-category-preserved
loop-category-preserved c =
    let before = rw c.in-Some.ensures.steps at c.loop-category.invariant.1 in
    (c.loop-category.invariant.0, rw (c.in_ok-insert.ensures.ok, c.in_ok-made.ensures) (one_put category_cmp_total _ _ _ _ _ _ before))

pub returns : goal.returns
returns c =
    let done = rw c.in-None.ensures.steps.0 at c.loop-category.invariant.1 in
    rw (← c.loop-category.invariant.0) (at_end category_cmp_total _ _ _ done)
