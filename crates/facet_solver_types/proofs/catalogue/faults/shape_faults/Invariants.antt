use Rattle.std.proofs.Common.{◌≡◌, ◌++◌, drop}
use Rattle.facet_solver_types.specs.Links.{links_view}
use Rattle.facet_solver_types.specs.ShapeFaults.{faults_from, shape_faults}
use Rattle.facet_solver_types.specs.TypeEntries.{entries_view}
use Rattle.facet_solver_types.specs.TypeTables.{table_view}
use Rattle.facet_solver_types.proofs.catalogue.faults.shape_faults.Given as goal

-- all faults are those so far, and those of the rest
abbrev pub invariant-loop-place : goal.invariant-loop-place
invariant-loop-place l =
    shape_faults (table_view l.table) (links_view l.needs)
    ≡ l.faults.items
    ++ faults_from (table_view l.table) (links_view l.needs) l.place
    (entries_view (drop l.place l.table.entries.now))
