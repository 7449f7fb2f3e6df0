use Rattle.std.proofs.Common.{◌≡◌, map}
use Rattle.std.specs.List.{find}
use Rattle.std.specs.FinMap.{entries}
use Rattle.facet_solver_shape.specs.Fields.{entry_view, has_name}
use Rattle.facet_solver_shape.proofs.Fields.{fields_of}
use Rattle.facet_solver_shape.proofs.resolution.tables.field_map.FieldMap.first_named.Given as goal

-- the first that is wanted is the first of those that are left
abbrev pub invariant-loop-info : goal.invariant-loop-info
invariant-loop-info l =
    (map entry_view l.initial.info-iterator ≡ entries l.self)
    × (find (has_name l.name) (fields_of l.initial.info-iterator) ≡ find (has_name l.name) (fields_of l.info-iterator))
