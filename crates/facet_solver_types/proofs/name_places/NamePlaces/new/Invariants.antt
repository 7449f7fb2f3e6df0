use Rattle.std.proofs.Common.{◌≤◌, length}
use Rattle.facet_solver_shape.specs.Names.{names_of}
use Rattle.facet_solver_types.specs.NamePlaces.{HasFirst, HasNext}
use Rattle.facet_solver_types.proofs.name_places.NamePlaces.new.Given as goal

-- the names from a place on have their first and next places
abbrev pub invariant-loop-place : goal.invariant-loop-place
invariant-loop-place l = record {
  within : l.place ≤ length l.names.items;
  first : HasFirst (names_of l.names.items) l.place l.first;
  next : HasNext (names_of l.names.items) l.place l.next.items;
}

abbrev pub decreases-loop-place : goal.decreases-loop-place
decreases-loop-place l = l.place
