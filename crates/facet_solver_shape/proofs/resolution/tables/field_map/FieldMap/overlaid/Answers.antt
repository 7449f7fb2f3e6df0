use Rattle.facet_solver_shape.proofs.Keys.{key_cmp_total}
use Rattle.facet_solver_shape.proofs.Resolved.{after_copy}
use Rattle.facet_solver_shape.proofs.resolution.tables.field_map.FieldMap.overlaid.Goals as goal

pub returns : goal.returns
returns c = after_copy key_cmp_total _ _ _ _ (rw c.new-made.ensures at c.in_ok-put_all.ensures) c.in_ok-put_all-2.ensures
