use Rattle.std.proofs.Common.{◌≡◌, ◌++◌, drop}
use Rattle.facet_solver_shape.specs.Names.{names_of}
use Rattle.facet_solver_types.specs.NamePlaces.{places_from, places_of}
use Rattle.facet_solver_types.proofs.name_places.places_of.Given as goal

-- those so far, and those of the others
abbrev pub invariant-loop-place : goal.invariant-loop-place
invariant-loop-place l =
    places_of l.name (names_of l.names)
    ≡ l.found.items ++ places_from l.place l.name (names_of (drop l.place l.names))
