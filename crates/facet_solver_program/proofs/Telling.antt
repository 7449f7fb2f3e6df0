-- What a member of a document tells a solver, by what each call tells it.
use Rattle.std.proofs.Common.{◌≡◌, ◌≤◌, Bool, true, false, ◌||◌, ℕ, List, [], ◌∷◌, ◌++◌, All, Bor, Option, arith, length, map, refl, ap, sym, ◌∙◌}
use Rattle.std.specs.Prelude.{if◌then◌else◌}
use Rattle.std.specs.List.{AllByRecursion, list_any}
use Rattle.std.specs.Option.{option_map_or}
use Rattle.std.proofs.lemmas.List.{map-append}
use Rattle.std.proofs.lemmas.List.Elements.{recursion_from_All}
use Rattle.serde_json.specs.Data.{Data}
use Rattle.facet_solver.specs.build.Build.{Catalogue}
use Rattle.facet_solver.specs.KeyPath.{has_key_path}
use Rattle.facet_solver.specs.Names.{Name, names_of}
use Rattle.facet_solver.specs.solver.Probe.{probe_key}
use Rattle.facet_solver.specs.Resolved.{Resolved}
use Rattle.facet_solver.specs.schema.Schema.{SchemaView}
use Rattle.facet_solver.specs.schema.ResolutionHandle.{IsHandleOf, index_of, resolution_of}
use Rattle.facet_solver.specs.solver.ShapeAtPath.{get_shapes_at_path, satisfy_at_path}
use Rattle.facet_solver.specs.solver.State.{State, retain}
use Rattle.facet_solver.specs.Resolutions.{passes}
use Rattle.facet_solver.specs.declared.schema.handle.ResolutionHandle.{ResolutionHandle}
use Rattle.facet_solver_program.specs.Tell.{fits_some_not_all, fitting, is_known_path, probe_path, tell_path, tell_shapes, tell_value}

-- ---- a test of handles' resolutions is a test at their indices
module _ (schema : SchemaView) (test : Resolved → Bool) where
  any_by : (handles : List ResolutionHandle) → AllByRecursion (IsHandleOf schema) handles
      → list_any (λ h. test (resolution_of h)) handles ≡ list_any (passes test schema.resolutions) (map index_of handles)
  any_by [] all = refl
  any_by (h ∷ handles) all =
      ap (λ b. test (resolution_of h) || b) (any_by handles all.1)
      ∙ ap (λ (o : Option Resolved). option_map_or test o false || list_any (passes test schema.resolutions) (map index_of handles)) (sym all.0)

  pub any_of_handles : (handles : List ResolutionHandle) → All (IsHandleOf schema) handles
      → list_any (λ h. test (resolution_of h)) handles ≡ list_any (passes test schema.resolutions) (map index_of handles)
  any_of_handles handles all = any_by handles (recursion_from_All (IsHandleOf schema) handles all)

-- ---- a path, and its last name apart
pub names_before_last : (path above : List (Bor Name)) (key : Bor Name) → path ≡ above ++ key ∷ [] → names_of above ++ key.now ∷ [] ≡ names_of path
names_before_last path above key is = sym (ap names_of is ∙ map-append (λ (n : Bor Name). n.now) above (key ∷ []))

-- a value at a path of several names
pub long_path : (cat : Catalogue) (path : List (Bor Name)) (d : Data) (s : State) → 2 ≤ length path → tell_path cat (names_of path) d s ≡ tell_value cat (names_of path) d s
long_path cat [] d s long = absurd (omega arith)
long_path cat (name ∷ []) d s long = absurd (omega arith)
long_path cat (name ∷ (next ∷ rest)) d s long = refl

-- ---- what is told, where it narrows
module _ (cat : Catalogue) (path : List Name) (d : Data) (s after : State) where
  -- some of the shapes fit, but not all
  pub shapes_told : (ids fit : List ℕ) (narrows : Bool) → ids ≡ get_shapes_at_path path s
      → narrows ≡ fits_some_not_all cat d ids → narrows ≡ true → fit ≡ fitting cat d ids
      → after ≡ satisfy_at_path path fit s → after ≡ tell_shapes cat path d s
  shapes_told ids fit narrows same told holds fit_is is =
      is
      ∙ ap (λ fit. satisfy_at_path path fit s) (fit_is ∙ ap (fitting cat d) same)
      ∙ sym (ap (λ (b : Bool). if b then satisfy_at_path path (fitting cat d (get_shapes_at_path path s)) s else s)
      (sym (ap (fits_some_not_all cat d) same) ∙ sym told ∙ holds))

  -- some candidate has the path
  pub path_told : (above : List Name) (key : Name) (is_known : Bool) (probed : State) → above ++ key ∷ [] ≡ path
      → is_known ≡ is_known_path path s → is_known ≡ true → probed ≡ probe_key above key s
      → after ≡ tell_shapes cat path d probed → after ≡ tell_path cat path d s
  path_told above key is_known probed whole told holds probed_is is =
      is
      ∙ ap (tell_shapes cat path d) (probed_is ∙ ap (λ names. retain (has_key_path names) s) whole)
      ∙ sym (ap (λ (b : Bool). if b then tell_shapes cat path d (probe_path path s) else s) (sym told ∙ holds))
