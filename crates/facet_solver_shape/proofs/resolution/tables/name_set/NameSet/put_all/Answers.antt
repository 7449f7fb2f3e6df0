use Rattle.std.proofs.Common.{◌∙◌, ap}
use Rattle.std.proofs.lemmas.Cmp.{nat_list_cmp_total}
use Rattle.facet_solver_shape.specs.Resolved.{names_view}
use Rattle.facet_solver_shape.proofs.Keys.{name_cmp_same}
use Rattle.facet_solver_shape.proofs.Resolved.{fill_start, one_filled, fill_end}
use Rattle.facet_solver_shape.proofs.resolution.tables.name_set.NameSet.put_all.Goals as goal

pub loop-name-init : goal.loop-name-init
loop-name-init c = (ap names_view c.into_iter-name-iterator.ensures.into_iter_gives.0 ∙ c.other.view_is, fill_start _ _)

pub loop-name-preserved : goal.loop-name-preserved
loop-name-preserved c =
    let before = rw c.in-Some.ensures.steps at c.loop-name.invariant.1 in
    (c.loop-name.invariant.0, rw c.in_ok-insert.ensures.ok (one_filled nat_list_cmp_total name_cmp_same _ _ _ _ _ before))

pub returns : goal.returns
returns c =
    let done = rw c.in-None.ensures.steps.0 at c.loop-name.invariant.1 in
    rw (← c.loop-name.invariant.0) (fill_end nat_list_cmp_total name_cmp_same _ _ _ done)
