-- What a solver does with a key that stands at a path of names, and what it answers.
use Rattle.std.specs.Prelude.{ℕ, List, [], ◌∷◌, Option, None, filter, map, slice_get}
use Rattle.std.specs.List.{filter_map}
use Rattle.std.specs.Option.{option_and_then, option_map}
use Rattle.facet_solver_shape.specs.Fields.{FieldView}
use Rattle.facet_solver_shape.specs.Names.{Name}
use Rattle.facet_solver_shape.specs.Resolved.{Resolved, field_by_name}
use Rattle.facet_solver.specs.build.Build.{Catalogue}
use Rattle.facet_solver.specs.solver.FirstOfEach.{first_of_each}
use Rattle.facet_solver.specs.KeyPath.{has_key_at, has_key_path, whole_path}
use Rattle.facet_solver.specs.set.IndexSet.{how_many}
use Rattle.facet_solver.specs.solver.KeyResult.{KeyResultView, unknown, unambiguous, ambiguous, solved_or, score_at}
use Rattle.facet_solver.specs.schema.Schema.{SchemaView}
use Rattle.facet_solver.specs.solver.ShapeAtPath.{shape_below}
use Rattle.facet_solver.specs.solver.State.{State, retain}
use Rattle.facet_solver.specs.Resolutions.{passes}

-- only the candidates stay that have the whole path of the key
abbrev pub probe_key : List Name → Name → State → State
probe_key path key s = retain (has_key_at path key) s

-- the names of a path below the first
abbrev pub below_first : List Name → List Name
below_first [] = []
below_first (name ∷ path) = path

-- the field of a resolution that has the first name of a path
abbrev pub first_field : List Name → Resolved → Option FieldView
first_field [] r = None
first_field (name ∷ path) r = field_by_name name r

-- where a resolution has a shape at a path: the field of the first name, with that shape
abbrev pub field_on_path : Catalogue → List Name → Resolved → Option (FieldView × ℕ)
field_on_path cat whole r =
    option_and_then
    (λ f. option_map (λ shape. (f, shape)) (shape_below cat (below_first whole) f.shape))
    (first_field whole r)

-- the same of the resolution at an index
abbrev pub field_on_path_at : Catalogue → List Name → List Resolved → ℕ → Option (FieldView × ℕ)
field_on_path_at cat whole resolutions index =
    option_and_then (field_on_path cat whole) (slice_get resolutions index)

-- of the resolutions at some indices the fields of the first name of a path, the first for each
-- shape at the path
abbrev pub fields_on_path : List Name → SchemaView → List ℕ → List (FieldView × ℕ)
fields_on_path whole schema indices =
    first_of_each (λ e. e.1)
    (filter_map (field_on_path_at schema.build.catalogue whole schema.resolutions) indices)

-- a field with the score of a shape
abbrev pub scored : Catalogue → FieldView × ℕ → FieldView × ℕ
scored cat e = (e.0, score_at cat e.1)

-- of the resolutions at some indices that have a whole path, the shapes there, each once
abbrev pub shapes_on_path : List Name → SchemaView → List ℕ → List ℕ
shapes_on_path whole schema indices =
    map (λ e. e.1)
    (fields_on_path whole schema (filter (passes (has_key_path whole) schema.resolutions) indices))

-- and the fields of the first name, one for each such shape, with its score
abbrev pub scored_at : List Name → SchemaView → List ℕ → List (FieldView × ℕ)
scored_at whole schema indices =
    map (scored schema.build.catalogue)
    (fields_on_path whole schema (filter (passes (has_key_path whole) schema.resolutions) indices))

-- by the shapes that a value may have, each with a field: one says what the value is, more do not,
-- and are shown by the field with the score of the shape
abbrev pub by_shapes : Catalogue → List (FieldView × ℕ) → KeyResultView
by_shapes cat [] = unknown
by_shapes cat (e ∷ []) = unambiguous e.1
by_shapes cat es = ambiguous (map (scored cat) es)

-- the answer to a key at a path, by how many candidates are left
abbrev pub key_path_result : List Name → Name → State → KeyResultView
key_path_result path key s =
    let cat = s.schema.build.catalogue in
    let left = (probe_key path key s).candidates in
    solved_or (by_shapes cat (fields_on_path (whole_path path key) s.schema left)) (how_many left)
