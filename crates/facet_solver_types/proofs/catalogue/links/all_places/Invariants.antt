use Rattle.std.proofs.Common.{◌≡◌, map, take}
use Rattle.std.specs.List.{flat_map}
use Rattle.std.specs.String.{string_bytes}
use Rattle.facet_solver_types.specs.Links.{places_in}
use Rattle.facet_solver_types.specs.PlacedNames.{names_in}
use Rattle.facet_solver_types.proofs.catalogue.links.all_places.Given as goal

abbrev pub invariant-loop-list : goal.invariant-loop-list
invariant-loop-list l =
    l.found.items
    ≡ places_in (names_in l.names)
    (flat_map (λ names. names)
    (map (λ list. map string_bytes list.items) (take l.list-index l.lists)))
