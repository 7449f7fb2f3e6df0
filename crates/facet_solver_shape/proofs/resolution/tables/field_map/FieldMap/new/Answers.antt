use Rattle.std.proofs.Common.{subst, sym}
use Rattle.facet_solver_shape.specs.Fields.{IsFieldTable}
use Rattle.facet_solver_shape.proofs.Fields.{empty_table}
use Rattle.facet_solver_shape.proofs.resolution.tables.field_map.FieldMap.new.Goals as goal

pub invariant_of-result : goal.invariant_of-result
invariant_of-result c = subst IsFieldTable (sym c.new.ensures.empty) empty_table
