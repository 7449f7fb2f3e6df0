use Rattle.std.proofs.Common.{◌≡◌, ◌++◌, drop, length, map}
use Rattle.std.specs.String.{string_bytes}
use Rattle.facet_solver_types.specs.ShapeFaults.{variants_faults}
use Rattle.facet_solver_types.specs.TypeTables.{table_view}
use Rattle.facet_solver_types.specs.Understood.{variant_view}
use Rattle.facet_solver_types.proofs.catalogue.faults.add_variants_faults.Given as goal

-- all faults are those so far, and those of the rest
abbrev pub invariant-loop-variant : goal.invariant-loop-variant
invariant-loop-variant l =
    l.initial.faults.items
    ++ variants_faults (table_view l.table) (map variant_view l.variants)
    (map (λ ids. map string_bytes ids.items) l.fn.types)
    ≡ l.faults.items
    ++ variants_faults (table_view l.table) (map variant_view (drop (length l.yielded) l.variants))
    (map (λ ids. map string_bytes ids.items) (drop (length l.yielded) l.fn.types))
