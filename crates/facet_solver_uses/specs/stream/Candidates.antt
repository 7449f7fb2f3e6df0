-- What candidates have at a path of names, and what they may hide there.
use Rattle.std.specs.Prelude.{◌&&◌, ◌||◌, Bool, false, ℕ, List, [], ◌∷◌, is_none, is_some, not, slice_get}
use Rattle.std.specs.List.{list_all, list_any}
use Rattle.std.specs.Option.{option_map_or}
use Rattle.facet_solver.specs.Names.{Name}
use Rattle.facet_solver.specs.Resolved.{Resolved, field_by_name}
use Rattle.facet_solver.specs.KeyPath.{has_key_path}
use Rattle.facet_solver.specs.Resolutions.{passes}
use Rattle.facet_solver.specs.build.Build.{Catalogue}
use Rattle.facet_solver.specs.solver.ShapeAtPath.{shape_at_path, shape_of_member}
use Rattle.facet_solver.specs.solver.State.{State}
use Rattle.facet_solver.specs.declared.Field.{Field}
use Rattle.facet_solver.specs.declared.Shape.{Shape}
use Rattle.facet_solver.specs.declared.ShapeKind.{ShapeKind}
use Rattle.facet_solver.specs.declared.ShapeKind.TheVariants.{Struct}

-- whether one of some fields is flattened
abbrev pub has_flattened : List Field → Bool
has_flattened fields = list_any (λ f. f.flattened) fields

-- whether a kind is a struct of which no field is flattened
abbrev pub is_struct_without_flattened : ShapeKind → Bool
is_struct_without_flattened (Struct kind fields) = not (has_flattened fields.items)
is_struct_without_flattened _ = false

-- whether a shape is plainly a struct: in a document its fields are all that it has
abbrev pub is_plain : Shape → Bool
is_plain s =
    is_none s.inner && is_none s.proxy && not s.metadata_container
    && is_struct_without_flattened s.kind

-- whether the shape at an index is plainly a struct
abbrev pub is_plain_at : Catalogue → ℕ → Bool
is_plain_at cat id = option_map_or is_plain (slice_get cat id) false

-- whether the names of a path, from a shape on, lead to what is not plainly a struct, and so may
-- have keys that no path of the type has
abbrev pub hides_below : Catalogue → List Name → ℕ → Bool
hides_below cat [] id = false
hides_below cat (name ∷ path) id =
    not (is_plain_at cat id)
    || option_map_or (hides_below cat path) (shape_of_member cat name id) false

-- whether a resolution may hide a key of a whole path: on its way, from the field of the first name
-- on, stands what is not plainly a struct. Where no field has this name, the name alone may be the
-- path of the content of an adjacently tagged enum
abbrev pub may_hide : Catalogue → List Name → Resolved → Bool
may_hide cat [] r = false
may_hide cat (first ∷ below) r =
    option_map_or (λ f. hides_below cat below f.shape) (field_by_name first r)
    (has_key_path (first ∷ []) r)

-- whether a resolution lacks a whole key path, and may hide the key
abbrev pub hides : Catalogue → List Name → Resolved → Bool
hides cat whole r = not (has_key_path whole r) && may_hide cat whole r

-- whether some candidate passes a test
abbrev pub some_candidate : (Resolved → Bool) → State → Bool
some_candidate test s = list_any (passes test s.schema.resolutions) s.candidates

-- whether every candidate passes a test
abbrev pub every_candidate : (Resolved → Bool) → State → Bool
every_candidate test s = list_all (passes test s.schema.resolutions) s.candidates

-- whether a key is probed, by its whole path: some candidate has it, and none hides it
abbrev pub is_probed : List Name → State → Bool
is_probed whole s =
    some_candidate (has_key_path whole) s
    && not (some_candidate (hides s.schema.build.catalogue whole) s)

-- whether a resolution has a shape at a path
abbrev pub has_some_shape_at : Catalogue → List Name → Resolved → Bool
has_some_shape_at cat path r = is_some (shape_at_path cat path r)

-- whether the shapes of a value are told, by its path: every candidate has a shape there
abbrev pub is_told : List Name → State → Bool
is_told path s = every_candidate (has_some_shape_at s.schema.build.catalogue path) s
