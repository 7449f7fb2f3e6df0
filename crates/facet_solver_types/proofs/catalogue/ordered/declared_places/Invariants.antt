use Rattle.std.proofs.Common.{◌≡◌, ◌++◌, drop}
use Rattle.facet_solver_types.specs.CataloguedTypes.{declared_from, declared_places}
use Rattle.facet_solver_types.specs.TypeEntries.{entries_view}
use Rattle.facet_solver_types.specs.TypeTables.{table_view}
use Rattle.facet_solver_types.proofs.catalogue.ordered.declared_places.Given as goal

-- all places are those so far, and those of the rest
abbrev pub invariant-loop-place : goal.invariant-loop-place
invariant-loop-place l =
    declared_places (table_view l.table)
    ≡ l.places.items ++ declared_from l.place (entries_view (drop l.place l.table.entries.now))
