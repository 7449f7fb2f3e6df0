use Rattle.std.proofs.Common.{◌-◌, length}
use Rattle.facet_solver_shape.specs.Names.{names_of}
use Rattle.facet_solver_types.proofs.NamePlaces.{Walked}
use Rattle.facet_solver_types.proofs.name_places.NamePlaces.places_of.Given as goal

-- the places so far, and those from a place of the name on
abbrev pub invariant-loop-place : goal.invariant-loop-place
invariant-loop-place l = Walked (names_of l.self.names.items) l.name l.found.items l.place

abbrev pub decreases-loop-place : goal.decreases-loop-place
decreases-loop-place l = length l.self.names.items - l.place
