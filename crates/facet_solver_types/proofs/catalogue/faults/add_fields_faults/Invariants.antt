use Rattle.std.proofs.Common.{◌≡◌, ◌++◌, drop, length, map}
use Rattle.std.specs.String.{string_bytes}
use Rattle.facet_solver_types.specs.ShapeFaults.{fields_faults}
use Rattle.facet_solver_types.specs.TypeTables.{table_view}
use Rattle.facet_solver_types.specs.Understood.{field_view}
use Rattle.facet_solver_types.proofs.catalogue.faults.add_fields_faults.Given as goal

-- all faults are those so far, and those of the rest
abbrev pub invariant-loop-field : goal.invariant-loop-field
invariant-loop-field l =
    l.initial.faults.items
    ++ fields_faults (table_view l.table) (map field_view l.fields) (map string_bytes l.types)
    ≡ l.faults.items
    ++ fields_faults (table_view l.table) (map field_view (drop (length l.yielded) l.fields))
    (map string_bytes (drop (length l.yielded) l.types))
