-- A resolution under way, which still lacks the key paths of its fields' names.
use Rattle.std.specs.Prelude.{List, [], ◌∷◌, map}
use Rattle.std.specs.FinMap as finite
use Rattle.std.specs.FinSet as set
use Rattle.facet_solver_shape.specs.Fields.{FieldView}
use Rattle.facet_solver_shape.specs.Names.{Name}
use Rattle.facet_solver_shape.specs.Resolved.{Resolved}
use Rattle.facet_solver.specs.build.Nested.{KeyPaths, with_key_paths}

-- the names of a resolution's fields, by stored key
abbrev pub names_of_fields : Resolved → List Name
names_of_fields r = map (λ (f : FieldView). f.name) (finite.values r.fields)

-- the key paths of names
abbrev pub paths_of : List Name → KeyPaths
paths_of names = set.from_list (map (λ (name : Name). name ∷ []) names)

-- a resolution with the key path of each field's name
unfoldable pub with_names : Resolved → Resolved
with_names r = with_key_paths r (paths_of (names_of_fields r))
