use Rattle.std.proofs.Common.{◌≡◌, ◌++◌, map, take}
use Rattle.std.specs.String.{string_bytes}
use Rattle.facet_solver_types.specs.Links.{places_in}
use Rattle.facet_solver_types.specs.PlacedNames.{names_in}
use Rattle.facet_solver_types.proofs.catalogue.links.add_places.Given as goal

abbrev pub invariant-loop-name : goal.invariant-loop-name
invariant-loop-name l =
    l.found.items
    ≡ l.initial.found.items
    ++ places_in (names_in l.names) (map string_bytes (take l.name-index l.wanted))
