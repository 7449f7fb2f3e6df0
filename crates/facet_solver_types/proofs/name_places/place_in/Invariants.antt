use Rattle.std.proofs.Common.{◌≡◌, ◌+◌, drop}
use Rattle.facet_solver_shape.specs.Names.{names_of}
use Rattle.facet_solver_types.specs.Links.{place_in}
use Rattle.facet_solver_types.proofs.name_places.place_in.Given as goal

-- the name is not among those so far
abbrev pub invariant-loop-place : goal.invariant-loop-place
invariant-loop-place l =
    place_in (names_of l.names) l.name
    ≡ l.place + place_in (names_of (drop l.place l.names)) l.name
