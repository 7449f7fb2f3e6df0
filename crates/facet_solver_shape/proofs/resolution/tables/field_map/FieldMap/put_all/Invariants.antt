use Rattle.std.proofs.Common.{◌≡◌, map}
use Rattle.std.specs.List.{AllByRecursion}
use Rattle.facet_solver_shape.specs.Fields.{entry_view, IsStored, field_entries_view}
use Rattle.facet_solver_shape.proofs.Resolved.{IsUnderway}
use Rattle.facet_solver_shape.proofs.resolution.tables.field_map.FieldMap.put_all.Given as goal

abbrev pub invariant-loop-info : goal.invariant-loop-info
invariant-loop-info l =
    (field_entries_view l.initial.info-iterator ≡ l.upper)
    × IsUnderway l.initial.self l.self (map entry_view l.initial.info-iterator) (map entry_view l.info-iterator)
    × AllByRecursion IsStored (map entry_view l.info-iterator)
