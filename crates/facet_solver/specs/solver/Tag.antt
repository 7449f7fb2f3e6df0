-- What the text under a tag tells, and what it leaves of a state.
use Rattle.std.specs.Prelude.{◌-◌, Bool, true, false, Option, Some, None, length, slice_get}
use Rattle.std.specs.Option.{option_and_then, option_map_or}
use Rattle.facet_solver_shape.specs.Keys.{flat_key}
use Rattle.facet_solver_shape.specs.Names.{Name, name_eq}
use Rattle.facet_solver_shape.specs.Paths.{Segment, by_field, by_variant}
use Rattle.facet_solver_shape.specs.Resolved.{Resolved, field_by_key}
use Rattle.facet_solver.specs.build.Place.{Path}
use Rattle.facet_solver.specs.solver.State.{State, passing, retain, see_key, where_any}

-- the variant that a segment is of
abbrev pub variant_of : Segment → Option Name
variant_of (by_field name) = None
variant_of (by_variant field variant) = Some variant

-- the variant that a path ends in
abbrev pub last_variant : Path → Option Name
last_variant path = option_and_then variant_of (slice_get path (length path - 1))

-- the variant that the field of a tag is the selector of
abbrev pub variant_under : Name → Resolved → Option Name
variant_under tag r = option_and_then (λ f. last_variant f.path) (field_by_key (flat_key tag) r)

-- whether a resolution has the variant under the tag
abbrev pub has_variant_under : Name → Name → Resolved → Bool
has_variant_under tag variant r =
    option_map_or (λ other. name_eq other variant) (variant_under tag r) false

-- whether a resolution has no other variant under the tag
abbrev pub has_no_other_under : Name → Name → Resolved → Bool
has_no_other_under tag variant r =
    option_map_or (λ other. name_eq other variant) (variant_under tag r) true

-- where some candidate has the variant under the tag, only those stay that have no other there
abbrev pub keep_variant : Name → Name → State → State
keep_variant tag variant s =
    where_any (passing (has_variant_under tag variant) s)
    (retain (has_no_other_under tag variant) s) s

-- the key of the tag is seen, and then the variant under it is kept
abbrev pub see_tag : Name → Name → State → State
see_tag tag variant s = keep_variant tag variant (see_key (flat_key tag) s)
