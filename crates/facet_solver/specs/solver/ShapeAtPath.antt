-- The shape of a resolution at a path of names, and what calls that go by it leave of a state.
use Rattle.std.specs.Prelude.{ℕ, Bool, List, [], ◌∷◌, Option, Some, None, find, slice_get, false}
use Rattle.std.specs.List.{filter_map}
use Rattle.std.specs.Option.{option_and_then, option_map, option_map_or}
use Rattle.facet_solver_shape.specs.declared.shape.Field.{Field}
use Rattle.facet_solver_shape.specs.Names.{Name, effective_name, name_eq}
use Rattle.facet_solver_shape.specs.Resolved.{Resolved, field_by_name}
use Rattle.facet_solver.specs.build.Build.{Catalogue, kind_at}
use Rattle.facet_solver.specs.build.Content.{struct_fields}
use Rattle.facet_solver.specs.solver.FirstOfEach.{first_of_each}
use Rattle.facet_solver.specs.set.IndexSet.{has_index}
use Rattle.facet_solver.specs.schema.Schema.{SchemaView}
use Rattle.facet_solver.specs.solver.State.{State, retain}

-- the shape of the first field that goes by a name
abbrev pub shape_of_field : Name → List Field → Option ℕ
shape_of_field name fields =
    option_map (λ f. f.shape) (find (λ f. name_eq (effective_name f) name) fields)

-- where a shape is a struct: the shape of its first field that goes by a name
abbrev pub shape_of_member : Catalogue → Name → ℕ → Option ℕ
shape_of_member cat name id = option_and_then (shape_of_field name) (struct_fields (kind_at cat id))

-- the shape at the end of a path of members that begins at a shape
abbrev pub shape_below : Catalogue → List Name → ℕ → Option ℕ
shape_below cat [] id = Some id
shape_below cat (name ∷ path) id =
    option_and_then (shape_below cat path) (shape_of_member cat name id)

-- the shape of a resolution at a path: that of the field of the first name, and from there by the
-- members of structs
abbrev pub shape_at_path : Catalogue → List Name → Resolved → Option ℕ
shape_at_path cat [] r = None
shape_at_path cat (name ∷ path) r =
    option_and_then (λ f. shape_below cat path f.shape) (field_by_name name r)

-- whether the shape of a resolution at a path is one of some shapes
abbrev pub has_shape_at_path : Catalogue → List Name → List ℕ → Resolved → Bool
has_shape_at_path cat path shapes r =
    option_map_or (has_index shapes) (shape_at_path cat path r) false

-- only the candidates stay whose shape at the path is one of the shapes
abbrev pub satisfy_at_path : List Name → List ℕ → State → State
satisfy_at_path path shapes s =
    retain (has_shape_at_path s.schema.build.catalogue path shapes) s

-- the shape at a path of the resolution at an index
abbrev pub shape_at : Catalogue → List Name → List Resolved → ℕ → Option ℕ
shape_at cat path resolutions index =
    option_and_then (shape_at_path cat path) (slice_get resolutions index)

-- some shapes, each once
abbrev pub distinct : List ℕ → List ℕ
distinct shapes = first_of_each (λ shape. shape) shapes

-- the shapes of the resolutions at some indices at a path, each once, in the order of the indices
abbrev pub distinct_shapes : List Name → SchemaView → List ℕ → List ℕ
distinct_shapes path schema indices =
    distinct (filter_map (shape_at schema.build.catalogue path schema.resolutions) indices)

-- the shapes of the candidates at a path, each once, in the order of the candidates
abbrev pub get_shapes_at_path : List Name → State → List ℕ
get_shapes_at_path path s = distinct_shapes path s.schema s.candidates
