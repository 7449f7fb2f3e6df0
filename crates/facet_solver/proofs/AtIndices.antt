-- The resolutions at some indices.
use Rattle.std.proofs.Common.{◌≡◌, ℕ, zero, suc, ◌<◌, Bool, true, false, cond, not, ◌&&◌, List, [], ◌∷◌, Option, Some, None, All, Bor, filter, length, slice_get, refl, ap, sym, ◌∙◌, arith}
use Rattle.std.specs.List.{AllByRecursion, cons_option, list_all}
use Rattle.std.specs.Option.{option_copied, option_map_or}
use Rattle.std.specs.Slice.{IsItemAt}
use Rattle.std.proofs.lemmas.List.Elements.{All-from_recursion, recursion_from_All}
use Rattle.std.proofs.lemmas.Option.{slice_get_within}
use Rattle.facet_solver_shape.specs.Names.{Name}
use Rattle.facet_solver_shape.specs.Resolved.{Resolved}
use Rattle.facet_solver_shape.proofs.Lists.{copied_item}
use Rattle.facet_solver.specs.Resolutions.{has_field_named, passes}
use Rattle.facet_solver.specs.solver.Report.{resolutions_at}

-- what `get` of their list gives
pub got : {X : Type 0} (all xs : List X) → xs ≡ all → (i : ℕ) (r : Option (Bor X)) → IsItemAt xs i r → slice_get all i ≡ option_copied r
got all xs same i r h = ap (λ ys. slice_get ys i) (sym same) ∙ sym (copied_item xs i r h)

module _ (rs : List Resolved) (i : ℕ) (rest : List ℕ) where
  -- the first is there
  pub one_at : (r : Resolved) → slice_get rs i ≡ Some r → resolutions_at rs (i ∷ rest) ≡ r ∷ resolutions_at rs rest
  one_at r is = ap (λ o. cons_option o (resolutions_at rs rest)) is

  -- or not
  pub none_at : slice_get rs i ≡ None → resolutions_at rs (i ∷ rest) ≡ resolutions_at rs rest
  none_at is = ap (λ o. cons_option o (resolutions_at rs rest)) is

-- indices of resolutions that pass are those of resolutions
passing_within : (test : Resolved → Bool) (rs : List Resolved) (is : List ℕ) → AllByRecursion (λ i. i < length rs) (filter (passes test rs) is)
passing_within test rs [] = tt
passing_within test rs (i ∷ is) = go (slice_get rs i) refl (passing_within test rs is)
  where
    kept : (b : Bool) → i < length rs → AllByRecursion (λ i. i < length rs) (filter (passes test rs) is)
        → AllByRecursion (λ i. i < length rs) (cond b (i ∷ filter (passes test rs) is) (filter (passes test rs) is))
    kept true low rest = (low, rest)
    kept false low rest = rest

    go : (o : Option Resolved) → slice_get rs i ≡ o → AllByRecursion (λ i. i < length rs) (filter (passes test rs) is)
        → AllByRecursion (λ i. i < length rs) (cond (option_map_or test o false) (i ∷ filter (passes test rs) is) (filter (passes test rs) is))
    go None here rest = rest
    go (Some r) here rest = kept (test r) (slice_get_within rs i r here) rest

pub all_within : (test : Resolved → Bool) (rs : List Resolved) (is : List ℕ) → All (λ i. i < length rs) (filter (passes test rs) is)
all_within test rs is = All-from_recursion (λ i. i < length rs) _ (passing_within test rs is)

not_missed : (rs : List Resolved) (i : ℕ) → i < length rs → slice_get rs i ≡ None → ⊥
not_missed [] i low here = absurd (omega arith)
not_missed (r ∷ rs) zero low here = cc
not_missed (r ∷ rs) (suc i) low here = not_missed rs i (omega arith) here

-- a test of all resolutions at indices of resolutions
all_at : (test : Resolved → Bool) (rs : List Resolved) (is : List ℕ) → AllByRecursion (λ i. i < length rs) is → list_all (passes test rs) is ≡ list_all test (resolutions_at rs is)
all_at test rs [] within = refl
all_at test rs (i ∷ is) within = go (slice_get rs i) refl (all_at test rs is within.1)
  where
    go : (o : Option Resolved) → slice_get rs i ≡ o → list_all (passes test rs) is ≡ list_all test (resolutions_at rs is)
        → (option_map_or test o false && list_all (passes test rs) is) ≡ list_all test (cons_option o (resolutions_at rs is))
    go None here rest = absurd (not_missed rs i within.0 here)
    go (Some r) here rest = ap (λ b. test r && b) rest

pub all_pass_at : (test : Resolved → Bool) (rs : List Resolved) (is : List ℕ) → All (λ i. i < length rs) is → list_all (passes test rs) is ≡ list_all test (resolutions_at rs is)
all_pass_at test rs is within = all_at test rs is (recursion_from_All (λ i. i < length rs) is within)

-- the names that some resolution at indices lacks
abbrev pub lacked_among : List Resolved → List ℕ → List Name → List Name
lacked_among rs is names = filter (λ name. not (list_all (passes (has_field_named name) rs) is)) names

module _ (rs : List Resolved) (is : List ℕ) (name : Name) (rest : List Name) where
  -- one of them
  pub lacked_taken : list_all (passes (has_field_named name) rs) is ≡ false → lacked_among rs is (name ∷ rest) ≡ name ∷ lacked_among rs is rest
  lacked_taken lacks = rw lacks refl

  -- a name that all have
  pub lacked_left : list_all (passes (has_field_named name) rs) is ≡ true → lacked_among rs is (name ∷ rest) ≡ lacked_among rs is rest
  lacked_left all = rw all refl

-- they are those that not all resolutions at the indices have
pub lacked_at : (rs : List Resolved) (is : List ℕ) → All (λ i. i < length rs) is → (names : List Name)
    → lacked_among rs is names ≡ filter (λ name. not (list_all (has_field_named name) (resolutions_at rs is))) names
lacked_at rs is within names =
    ap (λ test. filter test names) (λ i name. not (all_pass_at (has_field_named name) rs is within i))
