use Rattle.std.proofs.Common.{◌≡◌, ◌++◌}
use Rattle.std.specs.List.{range_with_len}
use Rattle.facet_solver_types.specs.CataloguedTypes.{declared_in_order}
use Rattle.facet_solver_types.specs.Links.{links_view}
use Rattle.facet_solver_types.specs.TypeTables.{table_view}
use Rattle.facet_solver_types.proofs.catalogue.ordered.all_places.Given as goal

-- the places so far
abbrev pub invariant-loop-place : goal.invariant-loop-place
invariant-loop-place l =
    l.places.items
    ≡ declared_in_order (table_view l.table) (links_view l.needs) ++ range_with_len 0 l.place
