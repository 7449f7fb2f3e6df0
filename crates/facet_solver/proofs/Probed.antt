-- What probing a key leaves.
use Rattle.std.proofs.Common.{◌≡◌, Bool, true, false, cond, List, [], ◌∷◌, filter, refl, ap}
use denote.Bor.{Bor}
use Rattle.facet_solver_shape.specs.Resolved.{Resolved}
use Rattle.facet_solver.specs.Probing.{resolutions_of}

one_kept : (b : Bool) (r : Bor Resolved) (rs : List (Bor Resolved)) (kept : List Resolved) → resolutions_of rs ≡ kept → resolutions_of (cond b (r ∷ rs) rs) ≡ cond b (r.now ∷ kept) kept
one_kept true r rs kept same = ap (λ xs. r.now ∷ xs) same
one_kept false r rs kept same = same

-- the resolutions behind references that pass a test are those that pass it
pub kept : (test : Resolved → Bool) (rs : List (Bor Resolved)) → resolutions_of (filter (λ (r : Bor Resolved). test r.now) rs) ≡ filter test (resolutions_of rs)
kept test [] = refl
kept test (r ∷ rs) =
    one_kept (test r.now) r (filter (λ (s : Bor Resolved). test s.now) rs) (filter test (resolutions_of rs)) (kept test rs)
