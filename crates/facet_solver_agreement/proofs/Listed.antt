-- What stands in lists.
use Rattle.std.proofs.Common.{◌≡◌, refl, sym, ap, ◌∙◌, subst, ℕ, zero, suc, Bool, true, false}
use Rattle.std.proofs.Common.{cond, List, [], ◌∷◌, Option, Some, None, Contains, filter, slice_get}
use Rattle.std.proofs.Common.{arith}
use Rattle.std.specs.List.{AllZip, list_all, list_any}
use Rattle.std.specs.Option.{option_map_or}
use Rattle.std.proofs.lemmas.Bool.{and_parts}
use Rattle.std.proofs.lemmas.List.Folds.{Any-from_list_any}
use Rattle.std.proofs.lemmas.Option.{none-some, same_Some}
use Rattle.facet_solver_shape.specs.Keys.{Key}
use Rattle.facet_solver_shape.specs.Resolved.{Resolved}
use Rattle.facet_solver.specs.Resolutions.{has_key, is_known, passes}
use Rattle.facet_solver.specs.solver.Told.{has_keys, known_keys}

-- what stands at one index of two lists that belong together
pub second_at : {A B : Type 0} (R : A → B → Type 0) (xs : List A) (ys : List B) (i : ℕ) (x : A)
    → AllZip R xs ys → slice_get xs i ≡ Some x → (y : B) × (slice_get ys i ≡ Some y) × R x y
second_at R [] ys i x zipped at = absurd (none-some x at)
second_at R (z ∷ xs) [] i x zipped at = absurd zipped
second_at R (z ∷ xs) (y ∷ ys) zero x zipped at =
    (y, refl, subst (λ w. R w y) (same_Some z x at) zipped.0)
second_at R (z ∷ xs) (y ∷ ys) (suc i) x zipped at = second_at R xs ys i x zipped.1 at

pub first_at : {A B : Type 0} (R : A → B → Type 0) (xs : List A) (ys : List B) (i : ℕ) (y : B)
    → AllZip R xs ys → slice_get ys i ≡ Some y → (x : A) × R x y
first_at R xs [] i y zipped at = absurd (none-some y at)
first_at R [] (z ∷ ys) i y zipped at = absurd zipped
first_at R (x ∷ xs) (z ∷ ys) zero y zipped at = (x, subst (R x) (same_Some z y at) zipped.0)
first_at R (x ∷ xs) (z ∷ ys) (suc i) y zipped at = first_at R xs ys i y zipped.1 at

-- what a filter leaves passes, and was there
pub in_filtered : (p : ℕ → Bool) (xs : List ℕ) (x : ℕ) → Contains (filter p xs) x
    → (p x ≡ true) × Contains xs x
in_filtered p [] x h = absurd (omega (arith, h.1))
in_filtered p (y ∷ xs) x h = go (p y) refl h (λ k. in_filtered p xs x k)
  where
    go : (b : Bool) → p y ≡ b → Contains (cond b (y ∷ filter p xs) (filter p xs)) x
        → (Contains (filter p xs) x → (p x ≡ true) × Contains xs x)
        → (p x ≡ true) × Contains (y ∷ xs) x
    go true is (zero, low, same) later = (ap p (sym same) ∙ is, (0, omega arith, same))
    go true is (suc k, low, same) later =
        let r = later (k, omega arith, same) in (r.0, (suc r.1.0, omega (arith, r.1.1), r.1.2))
    go false is h later = let r = later h in (r.0, (suc r.1.0, omega (arith, r.1.1), r.1.2))

-- what passes at an index is a resolution that does
pub passed_at : (test : Resolved → Bool) (rs : List Resolved) (i : ℕ) → passes test rs i ≡ true
    → (r : Resolved) × (slice_get rs i ≡ Some r) × (test r ≡ true)
passed_at test rs i h = go (slice_get rs i) refl h
  where
    go : (o : Option Resolved) → slice_get rs i ≡ o → option_map_or test o false ≡ true
        → (r : Resolved) × (slice_get rs i ≡ Some r) × (test r ≡ true)
    go None at h = absurd (cc)
    go (Some r) at h = (r, at, h)

-- some key passes a test
pub some_key : (test : Key → Bool) (keys : List Key) → list_any test keys ≡ true
    → (key : Key) × Contains keys key × (test key ≡ true)
some_key test keys h =
    let a = Any-from_list_any test keys h in (a.1, (a.0, a.2, a.3), a.4)

-- what has all known keys of a list has each
pub known_has : (rs : List Resolved) (keys : List Key) (q : Resolved)
    → has_keys (known_keys rs keys) q ≡ true
    → (key : Key) → Contains keys key → is_known rs key ≡ true → has_key key q ≡ true
known_has rs [] q h key (k, low, same) known = absurd (omega arith)
known_has rs (x ∷ keys) q h key (zero, low, same) known =
    let here : is_known rs x ≡ true = ap (is_known rs) same ∙ known in
    let rest = known_keys rs keys in
    let all : has_keys (x ∷ rest) q ≡ true =
    ap (λ b. has_keys (cond b (x ∷ rest) rest) q) (sym here) ∙ h in
    ap (λ k. has_key k q) (sym same) ∙ (and_parts (has_key x q) (has_keys rest q) all).0
known_has rs (x ∷ keys) q h key (suc k, low, same) known =
    known_has rs keys q (go (is_known rs x) h) key (k, omega arith, same) known
  where
    go : (b : Bool)
        → has_keys (cond b (x ∷ known_keys rs keys) (known_keys rs keys)) q ≡ true
        → has_keys (known_keys rs keys) q ≡ true
    go true all = (and_parts (has_key x q) (has_keys (known_keys rs keys) q) all).1
    go false all = all

-- what passes a test that all pass
pub all_pass : {A : Type 0} (test : A → Bool) (xs : List A) (k : ℕ) (x : A)
    → list_all test xs ≡ true → slice_get xs k ≡ Some x → test x ≡ true
all_pass test [] k x h at = absurd (none-some x at)
all_pass test (y ∷ xs) zero x h at =
    ap test (sym (same_Some y x at)) ∙ (and_parts (test y) (list_all test xs) h).0
all_pass test (y ∷ xs) (suc k) x h at =
    all_pass test xs k x (and_parts (test y) (list_all test xs) h).1 at
