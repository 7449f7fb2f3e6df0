use Rattle.facet_solver_shape.proofs.Keys.{category_cmp_total}
use Rattle.facet_solver_shape.proofs.Resolved.{after_copy}
use Rattle.facet_solver_shape.proofs.resolution.tables.catch_alls.CatchAlls.overlaid.Goals as goal

pub returns : goal.returns
returns c = after_copy category_cmp_total _ _ _ _ (rw c.new-made.ensures at c.in_ok-put_all.ensures) c.in_ok-put_all-2.ensures
