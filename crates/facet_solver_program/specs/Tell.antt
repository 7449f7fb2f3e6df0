-- What the members of a document tell a solver.
use Rattle.std.specs.Prelude.{◌&&◌, ℕ, Bool, List, [], ◌∷◌, filter, fold, if◌then◌else◌, not}
use Rattle.std.specs.List.{list_all, list_any}
use Rattle.std.specs.Option.{option_map_or}
use Rattle.serde_json.specs.Data.{Data}
use Rattle.serde_json.specs.Find.{as_str}
use Rattle.facet_solver.specs.build.Build.{Catalogue}
use Rattle.facet_solver.specs.KeyPath.{has_key_path}
use Rattle.facet_solver.specs.Keys.{flat_key}
use Rattle.facet_solver.specs.Names.{Name}
use Rattle.facet_solver.specs.solver.ShapeAtPath.{get_shapes_at_path, satisfy_at_path}
use Rattle.facet_solver.specs.solver.State.{State, hint_variant_for_tag, retain, see_key}
use Rattle.facet_solver.specs.Resolutions.{passes}
use Rattle.facet_solver_program.specs.Document.{Member}
use Rattle.facet_solver_program.specs.Fits.{fits}

-- of some shapes those that a value fits
abbrev pub fitting : Catalogue → Data → List ℕ → List ℕ
fitting cat d shapes = filter (λ id. fits cat id d) shapes

-- whether a value fits one of some shapes
abbrev pub fits_any : Catalogue → Data → List ℕ → Bool
fits_any cat d shapes = list_any (λ id. fits cat id d) shapes

-- whether a value fits all of some shapes
abbrev pub fits_all : Catalogue → Data → List ℕ → Bool
fits_all cat d shapes = list_all (λ id. fits cat id d) shapes

-- whether a value fits some of some shapes, but not all
abbrev pub fits_some_not_all : Catalogue → Data → List ℕ → Bool
fits_some_not_all cat d shapes = fits_any cat d shapes && not (fits_all cat d shapes)

-- where a value fits some of the candidates' shapes at its path, but not all: only the candidates
-- stay that have one of those that it fits
abbrev pub tell_shapes : Catalogue → List Name → Data → State → State
tell_shapes cat path d s =
    let shapes = get_shapes_at_path path s in
    if fits_some_not_all cat d shapes then satisfy_at_path path (fitting cat d shapes) s else s

-- a text under a key is a hint of a variant's name, if the key is a tag
abbrev pub tell_text : Name → Data → State → State
tell_text key d s = option_map_or (λ text. hint_variant_for_tag key text s) (as_str d) s

-- a member of the document itself: its key is seen, a text is a hint, and then the shapes count
abbrev pub tell_key : Catalogue → Name → Data → State → State
tell_key cat key d s =
    tell_shapes cat (key ∷ []) d (tell_text key d (see_key (flat_key key) s))

-- whether some candidate has a whole key path
abbrev pub is_known_path : List Name → State → Bool
is_known_path path s = list_any (passes (has_key_path path) s.schema.resolutions) s.candidates

-- a key is asked for by its whole path, as `probe_key` does: only the candidates stay that have it
abbrev pub probe_path : List Name → State → State
probe_path path s = retain (has_key_path path) s

-- a member further below: where some candidate has its path, its key is asked for, and then the
-- shapes count
abbrev pub tell_path : Catalogue → List Name → Data → State → State
tell_path cat path d s =
    if is_known_path path s then tell_shapes cat path d (probe_path path s) else s

-- a value at a path, by how many names that has
abbrev pub tell_value : Catalogue → List Name → Data → State → State
tell_value cat [] d s = s
tell_value cat (key ∷ []) d s = tell_key cat key d s
tell_value cat (name ∷ (next ∷ rest)) d s = tell_path cat (name ∷ (next ∷ rest)) d s

-- a member
abbrev pub tell_member : Catalogue → Member → State → State
tell_member cat m s = tell_value cat m.path m.value s

-- members, one after another
abbrev pub tell : Catalogue → List Member → State → State
tell cat members s = fold (λ now m. tell_member cat m now) s members
