-- What a document tells a solver, and what that leaves of its state.
use Rattle.std.specs.Prelude.{ℕ, List, [], ◌∷◌, fold, if◌then◌else◌}
use Rattle.facet_solver.specs.Keys.{flat_key}
use Rattle.facet_solver.specs.KeyPath.{whole_path}
use Rattle.facet_solver.specs.Names.{Name}
use Rattle.facet_solver.specs.solver.Probe.{probe_key}
use Rattle.facet_solver.specs.solver.ShapeAtPath.{satisfy_at_path}
use Rattle.facet_solver.specs.solver.State.{State, passing, see_key, where_any}
use Rattle.facet_solver.specs.solver.Tag.{has_variant_under, see_tag}
use Rattle.facet_solver_uses.specs.stream.Candidates.{is_probed, is_told}

-- what stands in a document outside its lists, each at a path of names: a key, a scalar with the
-- shapes that it fits, a text with these
pub data Part : Type 0 where
  a_key : List Name → Name → Part
  a_scalar : List Name → List ℕ → Part
  a_text : List Name → Name → List ℕ → Part

-- a key of the first level is seen; a deeper one is probed, or changes nothing
abbrev pub tell_key : List Name → Name → State → State
tell_key [] key s = see_key (flat_key key) s
tell_key (first ∷ rest) key s =
    if is_probed (whole_path (first ∷ rest) key) s then probe_key (first ∷ rest) key s else s

-- the shapes at a path are told, or nothing changes
abbrev pub tell_scalar : List Name → List ℕ → State → State
tell_scalar path shapes s = if is_told path s then satisfy_at_path path shapes s else s

-- a text of the first level stands under its key as a tag; where it is no variant of any candidate,
-- and deeper, its shapes are told
abbrev pub tell_text : List Name → Name → List ℕ → State → State
tell_text (tag ∷ []) text shapes s =
    where_any (passing (has_variant_under tag text) (see_key (flat_key tag) s))
    (see_tag tag text s) (tell_scalar (tag ∷ []) shapes (see_tag tag text s))
tell_text path text shapes s = tell_scalar path shapes s

-- a part is told
abbrev pub tell : Part → State → State
tell (a_key path key) s = tell_key path key s
tell (a_scalar path shapes) s = tell_scalar path shapes s
tell (a_text path text shapes) s = tell_text path text shapes s

-- parts are told, one after another
abbrev pub tell_all : List Part → State → State
tell_all parts s = fold (λ now part. tell part now) s parts
