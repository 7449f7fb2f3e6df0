-- What is asked of resolutions: which pass a test, have a key, or have a field of a name, and which
-- field a key means.
use Rattle.std.specs.Prelude.{ℕ, Bool, List, Option, Some, None, if◌then◌else◌, is_some, slice_get, false}
use Rattle.std.specs.FinMap as finite
use Rattle.std.specs.List.{list_any}
use Rattle.std.specs.Option.{option_and_then, option_map_or}
use Rattle.facet_solver_shape.specs.Fields.{has_name, FieldView}
use Rattle.facet_solver_shape.specs.Keys.{Key}
use Rattle.facet_solver_shape.specs.Names.{Name}
use Rattle.facet_solver_shape.specs.Resolved.{Resolved, field_by_key}

-- whether the resolution at an index passes a test
abbrev pub passes : (Resolved → Bool) → List Resolved → ℕ → Bool
passes test resolutions index = option_map_or test (slice_get resolutions index) false

-- the resolution at an index, where it passes a test
abbrev pub passing_at : (Resolved → Bool) → List Resolved → ℕ → Option Resolved
passing_at test resolutions index =
    option_and_then (λ r. if test r then Some r else None) (slice_get resolutions index)

-- whether a resolution has a field that the key means
abbrev pub has_key : Key → Resolved → Bool
has_key key r = is_some (field_by_key key r)

-- whether some resolution has a key
abbrev pub is_known : List Resolved → Key → Bool
is_known resolutions key = list_any (has_key key) resolutions

-- the field that a key means in the resolution at an index
abbrev pub field_at : Key → List Resolved → ℕ → Option FieldView
field_at key resolutions index = option_and_then (field_by_key key) (slice_get resolutions index)

-- whether a resolution has a field of the name
abbrev pub has_field_named : Name → Resolved → Bool
has_field_named name r = list_any (has_name name) (finite.values r.fields)
