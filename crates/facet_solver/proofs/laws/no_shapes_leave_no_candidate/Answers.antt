use Rattle.std.proofs.Common.{◌≡◌, ℕ, Bool, false, cond, List, [], ◌∷◌, Option, Some, None, filter, refl, ap, ◌∙◌}
use Rattle.std.specs.Prelude.{slice_get}
use Rattle.std.specs.FinMap as finite
use Rattle.std.specs.List.{list_any}
use Rattle.std.specs.Option.{option_map_or}
use Rattle.facet_solver_shape.specs.Resolved.{Resolved}
use Rattle.facet_solver.specs.solver.ShapeAtPath.{has_shape_at_path, shape_at_path}
use Rattle.facet_solver.specs.solver.State.{State, has_shape_among, retain}
use Rattle.facet_solver.specs.Resolutions.{passes}
use Rattle.facet_solver.proofs.laws.no_shapes_leave_no_candidate.Goals as goal

none_of : (p : ℕ → Bool) → ((i : ℕ) → p i ≡ false) → (is : List ℕ) → filter p is ≡ []
none_of p none [] = refl
none_of p none (i ∷ is) = ap (λ b. cond b (i ∷ filter p is) (filter p is)) (none i) ∙ none_of p none is

-- a test that no resolution passes leaves no candidate
none_left : (test : Resolved → Bool) → ((r : Resolved) → test r ≡ false) → (s : State) → retain test s ≡ record s { candidates = [] }
none_left test none s =
    ap (λ is. record s { candidates = is }) (none_of (passes test s.schema.resolutions) (λ i. at (slice_get s.schema.resolutions i)) s.candidates)
  where
    at : (o : Option Resolved) → option_map_or test o false ≡ false
    at None = refl
    at (Some r) = none r

never : {X : Type 0} (xs : List X) → list_any (λ x. false) xs ≡ false
never [] = refl
never (x ∷ xs) = never xs

no_shapes : (s : State) → retain (has_shape_among []) s ≡ record s { candidates = [] }
no_shapes s = none_left (has_shape_among []) (λ r. never (finite.values r.fields)) s

pub returns-clause-shapes : goal.returns-clause-shapes
returns-clause-shapes c = no_shapes

pub returns-clause-fields : goal.returns-clause-fields
returns-clause-fields c = no_shapes

pub returns-clause-at_path : goal.returns-clause-at_path
returns-clause-at_path c = λ path s.
    let cat = s.schema.build.catalogue in
    none_left (has_shape_at_path cat path []) (λ r. at (shape_at_path cat path r)) s
  where
    at : (o : Option ℕ) → option_map_or (λ shape. false) o false ≡ false
    at None = refl
    at (Some shape) = refl
