-- What seen keys say of resolutions by their names alone, of whatever kind the keys are.
use Rattle.std.specs.Prelude.{Bool, List, filter, map, not}
use Rattle.std.specs.Cmp.Lexicographic.{slice_cmp}
use Rattle.std.specs.FinSet as set
use Rattle.std.specs.List.{filter_map, list_any}
use Rattle.std.specs.Ordering.{nat_cmp}
use Rattle.facet_solver_shape.specs.Fields.{FieldView}
use Rattle.facet_solver_shape.specs.Keys.{Key}
use Rattle.facet_solver_shape.specs.Names.{Name}
use Rattle.facet_solver_shape.specs.Resolved.{Resolved, field_by_name}
use Rattle.facet_solver.specs.solver.Failure.{in_byte_order, names_where}
use Rattle.facet_solver.specs.Resolutions.{has_field_named}

-- the names of keys
abbrev pub names_among : List Key → set.FinSet (slice_cmp nat_cmp)
names_among seen = set.from_list (map (λ k. k.name) seen)

-- each required name is the name of a seen key
abbrev pub is_viable_by_name : List Key → Resolved → Bool
is_viable_by_name seen r = set.is_subset r.required_names (names_among seen)

-- the required names that no seen key bears, in byte order
abbrev pub unseen_names : List Key → Resolved → List Name
unseen_names seen r =
    filter (λ name. not (set.contains (names_among seen) name))
    (in_byte_order (set.items r.required_names))

-- for each of these names the field of least stored key that goes by it
abbrev pub missing_by_name : List Key → Resolved → List FieldView
missing_by_name seen r = filter_map (λ name. field_by_name name r) (unseen_names seen r)

-- the names of the seen keys whose name no field of any resolution has
abbrev pub unknown_by_name : List Key → List Resolved → List Name
unknown_by_name seen resolutions =
    names_where (λ key. not (list_any (has_field_named key.name) resolutions)) seen
