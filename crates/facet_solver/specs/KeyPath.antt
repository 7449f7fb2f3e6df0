-- Key paths of a resolution, by the path to a key and the key apart.
use Rattle.std.specs.Prelude.{Bool, List, [], ◌∷◌, ◌++◌}
use Rattle.std.specs.FinSet as set
use Rattle.facet_solver_shape.specs.Names.{Name}
use Rattle.facet_solver_shape.specs.Resolved.{Resolved}

-- the whole path of a key that stands at a path
abbrev pub whole_path : List Name → Name → List Name
whole_path path key = path ++ key ∷ []

-- whether a resolution has a whole key path
abbrev pub has_key_path : List Name → Resolved → Bool
has_key_path whole r = set.contains r.key_paths whole

-- whether a resolution has the whole path of a key that stands at a path
abbrev pub has_key_at : List Name → Name → Resolved → Bool
has_key_at path key r = has_key_path (whole_path path key) r
