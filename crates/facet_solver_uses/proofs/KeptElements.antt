-- Elements of a list that a test keeps.
use Rattle.std.proofs.Common.{◌≡◌, ℕ, zero, suc, arith, refl, subst, sym, ◌∙◌, ap, Bool, true, false, cond, List, [], ◌∷◌, Some, filter, slice_get}
use Rattle.std.specs.Prelude.{Contains}

-- what is in a list is in a longer one
pub later : {X : Type 0} (y : X) (xs : List X) (x : X) → Contains xs x → Contains (y ∷ xs) x
later y xs x c = (suc c.0, omega (arith, c.1), c.2)

-- an element that passes is kept
pub kept : {X : Type 0} (p : X → Bool) (xs : List X) (i : ℕ) (x : X) → slice_get xs i ≡ Some x → p x ≡ true → Contains (filter p xs) x
kept p [] i x at passes = absurd (cc)
kept p (y ∷ xs) zero x at passes =
    let here : y ≡ x = cc in
    let b : p y ≡ true = ap p here ∙ passes in
    subst (λ (b : Bool). Contains (cond b (y ∷ filter p xs) (filter p xs)) x) (sym b) (0, omega arith, here)
kept p (y ∷ xs) (suc i) x at passes =
    let rest = kept p xs i x at passes in
    elim (p y) as (λ b. Contains (cond b (y ∷ filter p xs) (filter p xs)) x) [ true ↦ later y (filter p xs) x rest | false ↦ rest ]

at_head : (p : ℕ → Bool) (ys : List ℕ) (x y : ℕ) → (Contains (filter p ys) x → p x ≡ true) → (b : Bool) → p y ≡ b → Contains (cond b (y ∷ filter p ys) (filter p ys)) x → p x ≡ true
at_head p ys x y later false e c = later c
at_head p ys x y later true e (zero, low, is) = ap p (sym is) ∙ e
at_head p ys x y later true e (suc i, low, is) = later (i, omega arith, is)

-- an element that is kept passes
pub kept_passes : (p : ℕ → Bool) (xs : List ℕ) (x : ℕ) → Contains (filter p xs) x → p x ≡ true
kept_passes p [] x c = absurd (omega (arith, c.1))
kept_passes p (y ∷ ys) x c = at_head p ys x y (kept_passes p ys x) (p y) refl c

kept_head : (p : ℕ → Bool) (ys : List ℕ) (x y : ℕ) → (Contains (filter p ys) x → Contains ys x) → (b : Bool) → Contains (cond b (y ∷ filter p ys) (filter p ys)) x → Contains (y ∷ ys) x
kept_head p ys x y among false c = later y ys x (among c)
kept_head p ys x y among true (zero, low, is) = (zero, omega arith, is)
kept_head p ys x y among true (suc i, low, is) = later y ys x (among (i, omega arith, is))

-- what is kept was there
pub kept_among : (p : ℕ → Bool) (xs : List ℕ) (x : ℕ) → Contains (filter p xs) x → Contains xs x
kept_among p [] x c = c
kept_among p (y ∷ ys) x c = kept_head p ys x y (kept_among p ys x) (p y) c

none_head : (p q : ℕ → Bool) (ys : List ℕ) (y : ℕ) → (q y ≡ true → p y ≡ true) → (filter p ys ≡ [] → filter q ys ≡ []) → (a b : Bool) → p y ≡ a → q y ≡ b → cond a (y ∷ filter p ys) (filter p ys) ≡ [] → cond b (y ∷ filter q ys) (filter q ys) ≡ []
none_head p q ys y weaker rest true b at_p at_q none = absurd (cc)
none_head p q ys y weaker rest false true at_p at_q none =
    let here = weaker at_q in
    absurd (cc)
none_head p q ys y weaker rest false false at_p at_q none = rest none

-- where nothing passes a weaker test, nothing passes a stronger one
pub none_passes : (p q : ℕ → Bool) → ((x : ℕ) → q x ≡ true → p x ≡ true) → (xs : List ℕ) → filter p xs ≡ [] → filter q xs ≡ []
none_passes p q weaker [] none = refl
none_passes p q weaker (y ∷ ys) none =
    none_head p q ys y (weaker y) (none_passes p q weaker ys) (p y) (q y) refl refl none
