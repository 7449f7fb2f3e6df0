use Rattle.std.proofs.Common.{◌∙◌, ap}
use Rattle.facet_solver_shape.specs.Names.{names_of}
use Rattle.facet_solver_shape.specs.Resolved.{key_paths_view}
use Rattle.facet_solver_shape.proofs.Keys.{path_cmp_total, path_cmp_same}
use Rattle.facet_solver_shape.proofs.Resolved.{fill_start, one_filled, fill_end}
use Rattle.facet_solver_shape.proofs.resolution.tables.key_path_set.KeyPathSet.put_all.Goals as goal

pub loop-path-init : goal.loop-path-init
loop-path-init c = (ap key_paths_view c.into_iter-path-iterator.ensures.into_iter_gives.0 ∙ c.other.view_is, fill_start _ _)

pub loop-path-preserved : goal.loop-path-preserved
loop-path-preserved c =
    let before = rw c.in-Some.ensures.steps at c.loop-path.invariant.1 in
    let copied = ap names_of (c.in_ok-made.ensures.items ∙ c.deref.ensures.value) in
    (c.loop-path.invariant.0, rw (c.in_ok-insert.ensures.ok, copied) (one_filled path_cmp_total path_cmp_same _ _ _ _ _ before))

pub returns : goal.returns
returns c =
    let done = rw c.in-None.ensures.steps.0 at c.loop-path.invariant.1 in
    rw (← c.loop-path.invariant.0) (fill_end path_cmp_total path_cmp_same _ _ _ done)
