-- Lists of rising indices: what passes a test, and how many there are.
use Rattle.std.proofs.Common.{◌≡◌, ℕ, zero, suc, ◌+◌, ◌<◌, ◌≤◌, Bool, true, false, cond, ◌&&◌, ◌||◌, ◌⊎◌, inl, inr, nat_eq, List, [], ◌∷◌, ◌++◌, ◌-◌, length, not, filter, All, refl, ap, sym, ◌∙◌, arith, add-zero, zero-add, append-nil, eq-eqb, ne_eqb, append_assoc, Option, Some, None, MatchOption, is_some}
use Rattle.std.specs.List.{list_any, range_with_len}
use Rattle.std.specs.List.Sorted.{IsStrictlyIncreasing}
use Rattle.std.proofs.lemmas.Bool.{both_ways, cases_eq, cases_lt}
use Rattle.std.proofs.lemmas.List.Elements.{All-filter, filter-append, All-contains, Contains-append_right}
use Rattle.std.proofs.lemmas.List.Filters.{length-filter_both}
use Rattle.std.proofs.lemmas.List.Folds.{list_any_none}
use Rattle.std.proofs.lemmas.List.FromFn.{get_or-range_with_len, length-range_with_len}
use Rattle.std.proofs.lemmas.List.Kept.{IsStrictlyIncreasing-filter}
use Rattle.facet_solver.specs.set.IndexSet.{has_index, upto, no_index, one_index, how_many}
pub use Rattle.facet_solver.specs.set.SharedBits.{IsNext}

-- ---- the indices of a range that pass a test

-- all do
pub filter_all : (p : ℕ → Bool) (a n : ℕ) → ((i : ℕ) → a ≤ i → i < a + n → p i ≡ true) → filter p (range_with_len a n) ≡ range_with_len a n
filter_all p a zero each = refl
filter_all p a (suc n) each =
    let here : p a ≡ true = each a (omega arith) (omega arith) in
    rw here (ap (λ k. a ∷ k) (filter_all p (a + 1) n (λ i low high. each i (omega arith) (omega arith))))

-- none does
pub filter_none : (p : ℕ → Bool) (a n : ℕ) → ((i : ℕ) → a ≤ i → i < a + n → p i ≡ false) → filter p (range_with_len a n) ≡ []
filter_none p a zero each = refl
filter_none p a (suc n) each =
    let here : p a ≡ false = each a (omega arith) (omega arith) in
    rw here (filter_none p (a + 1) n (λ i low high. each i (omega arith) (omega arith)))

-- two tests agree
pub filter_same : (p q : ℕ → Bool) (a n : ℕ) → ((i : ℕ) → a ≤ i → i < a + n → p i ≡ q i) → filter p (range_with_len a n) ≡ filter q (range_with_len a n)
filter_same p q a zero each = refl
filter_same p q a (suc n) each =
    let here : p a ≡ q a = each a (omega arith) (omega arith) in
    let later : filter p (range_with_len (a + 1) n) ≡ filter q (range_with_len (a + 1) n) = filter_same p q (a + 1) n (λ i low high. each i (omega arith) (omega arith)) in
    rw (here, later) refl

-- two tests in turn
pub filter_filter : (p q : ℕ → Bool) (xs : List ℕ) → filter q (filter p xs) ≡ filter (λ i. p i && q i) xs
filter_filter p q [] = refl
filter_filter p q (x ∷ xs) =
    elim (p x) as (λ b. filter q (cond b (x ∷ filter p xs) (filter p xs)) ≡ cond (b && q x) (x ∷ filter (λ i. p i && q i) xs) (filter (λ i. p i && q i) xs)) [
      | true ↦ rw (filter_filter p q xs) refl
      | false ↦ filter_filter p q xs
    ]

-- the first that passes, and those after it
pub filter_next : (p : ℕ → Bool) (a n k m : ℕ) → IsNext p a k → k + 1 + m ≡ a + n → filter p (range_with_len a n) ≡ k ∷ filter p (range_with_len (k + 1) m)
filter_next p a zero k m next e = absurd (let low : a ≤ k = next.above in omega arith)
filter_next p a (suc n) k m next e =
    elim (cases_eq a k) [
      | inl same ↦
          let here : p a ≡ true = rw same next.passes in
          let count : n ≡ m = omega arith in
          rw here (rw (same, count) refl)
      | inr other ↦
          let low : a ≤ k = next.above in
          let here : p a ≡ false = next.skipped a (omega arith) (omega arith) in
          rw here (filter_next p (a + 1) n k m (record { above = omega arith; passes = next.passes; skipped = λ i h l. next.skipped i (omega arith) l }) (omega arith))
    ]

-- an index outside the range
pub has_outside : (p : ℕ → Bool) (a n i : ℕ) → (i < a) ⊎ (a + n ≤ i) → has_index (filter p (range_with_len a n)) i ≡ false
has_outside p a n i out =
    list_any_none (λ j. nat_eq j i) (filter p (range_with_len a n))
    (All-filter p (λ j. nat_eq j i ≡ false) (range_with_len a n)
    (λ k d h.
    let within : k < n = simp (length-range_with_len a n) at h in
    rw (get_or-range_with_len a n k d within)
    (ne_eqb (a + k) i (λ e. elim out [ inl low ↦ omega arith | inr high ↦ omega arith ]))))

-- and one inside it
pub has_inside : (p : ℕ → Bool) (a n i : ℕ) → a ≤ i → i < a + n → has_index (filter p (range_with_len a n)) i ≡ p i
has_inside p a zero i low high = absurd (omega arith)
has_inside p a (suc n) i low high =
    elim (cases_eq a i) [
      | inl same ↦
          rw (sym same)
          (elim (p a) as (λ b. has_index (cond b (a ∷ filter p (range_with_len (a + 1) n)) (filter p (range_with_len (a + 1) n))) a ≡ b) [
            | true ↦ rw (eq-eqb a a refl) refl
            | false ↦ has_outside p (a + 1) n a (inl (omega arith))
          ])
      | inr other ↦
          let later : has_index (filter p (range_with_len (a + 1) n)) i ≡ p i = has_inside p (a + 1) n i (omega arith) (omega arith) in
          elim (p a) as (λ b. has_index (cond b (a ∷ filter p (range_with_len (a + 1) n)) (filter p (range_with_len (a + 1) n))) i ≡ p i) [
            | true ↦ rw (ne_eqb a i other) later
            | false ↦ later
          ]
    ]

-- where none passes from the bound on
pub has_passing : (p : ℕ → Bool) (n i : ℕ) → ((j : ℕ) → n ≤ j → p j ≡ false) → has_index (filter p (upto n)) i ≡ p i
has_passing p n i clear =
    elim (cases_lt i n) [
      | inl low ↦ has_inside p 0 n i (omega arith) (omega arith)
      | inr high ↦ has_outside p 0 n i (inr (omega arith)) ∙ sym (clear i high)
    ]

-- a range in two parts
range_split : (a m n : ℕ) → range_with_len a (m + n) ≡ range_with_len a m ++ range_with_len (a + m) n
range_split a zero n = rw (zero-add, add-zero) refl
range_split a (suc m) n =
    let e : suc m + n ≡ suc (m + n) = omega arith in
    let f : a + suc m ≡ a + 1 + m = omega arith in
    rw (e, f) (ap (λ k. a ∷ k) (range_split (a + 1) m n))

pub filter_split : (p : ℕ → Bool) (m n : ℕ) → filter p (upto (m + n)) ≡ filter p (upto m) ++ filter p (range_with_len m n)
filter_split p m n =
    let e : range_with_len 0 (m + n) ≡ range_with_len 0 m ++ range_with_len m n = rw (zero-add) at (range_split 0 m n) in
    ap (filter p) e ∙ filter-append p (upto m) (range_with_len m n)

-- past the bound there is nothing to pass
pub filter_cut : (p : ℕ → Bool) (n bound : ℕ) → bound ≤ n → ((i : ℕ) → bound ≤ i → p i ≡ false) → filter p (upto n) ≡ filter p (upto bound)
filter_cut p n bound within clear =
    let e : n ≡ bound + (n - bound) = omega arith in
    let f : filter p (range_with_len bound (n - bound)) ≡ [] = filter_none p bound (n - bound) (λ i low _. clear i low) in
    ap (λ k. filter p (upto k)) e ∙ filter_split p bound (n - bound) ∙ ap (λ xs. filter p (upto bound) ++ xs) f ∙ append-nil (filter p (upto bound))

-- so no more pass than the bound
pub count_within : (p : ℕ → Bool) (n bound : ℕ) → ((i : ℕ) → bound ≤ i → p i ≡ false) → length (filter p (upto n)) ≤ bound
count_within p n bound clear =
    elim (cases_lt n bound) [
      | inl low ↦ omega (arith, length-filter_both p (λ i. not (p i)) (λ i. refl) (upto n), length-range_with_len 0 n)
      | inr high ↦ omega (arith, ap length (filter_cut p n bound high clear), length-filter_both p (λ i. not (p i)) (λ i. refl) (upto bound), length-range_with_len 0 bound)
    ]

-- the next that passes is below a bound from which none does
pub next_below : (p : ℕ → Bool) (from i bound : ℕ) → ((j : ℕ) → bound ≤ j → p j ≡ false) → IsNext p from i → i < bound
next_below p from i bound clear next =
    elim (cases_lt i bound) [
      | inl low ↦ low
      | inr high ↦ absurd (both_ways (p i) (clear i high) next.passes)
    ]

-- the next that passes, and those after it
pub filter-next : (p : ℕ → Bool) (from i end : ℕ) → ((j : ℕ) → end ≤ j → p j ≡ false) → IsNext p from i
    → filter p (range_with_len from (end - from)) ≡ i ∷ filter p (range_with_len (i + 1) (end - (i + 1)))
filter-next p from i end clear next =
    let low : i < end = next_below p from i end clear next in
    let above : from ≤ i = next.above in
    filter_next p from (end - from) i (end - (i + 1)) next (omega arith)

-- the indices below n are below n
below-upto : (n : ℕ) → All (λ j. j < n) (upto n)
below-upto n k d h =
    let within : k < n = simp (length-range_with_len 0 n) at h in
    rw (get_or-range_with_len 0 n k d within) (omega arith)

-- and rise
rising-upto : (n : ℕ) → IsStrictlyIncreasing (upto n)
rising-upto n k h =
    let within : k + 1 < n = simp (length-range_with_len 0 n) at h in
    let before : k < n = omega arith in
    rw (get_or-range_with_len 0 n k 0 before) (rw (get_or-range_with_len 0 n (k + 1) 0 within) (omega arith))

-- those that pass rise
pub filter-rises : (p : ℕ → Bool) (n : ℕ) → IsStrictlyIncreasing (filter p (upto n))
filter-rises p n = IsStrictlyIncreasing-filter p (upto n) (rising-upto n)

-- and are below the bound
pub filter-below : (p : ℕ → Bool) (n : ℕ) → All (λ j. j < n) (filter p (upto n))
filter-below p n = All-filter p (λ j. j < n) (upto n) (below-upto n)

-- ---- loops over the members of a set, and how many of them pass a test
-- a loop over a list, after one more item
pub rest_more : {X : Type 0} (ys s t all : List X) (x : X) → ys ++ s ≡ all → s ≡ x ∷ t → (ys ++ x ∷ []) ++ t ≡ all
rest_more ys s t all x e f = append_assoc ys (x ∷ []) t ∙ ap (λ k. ys ++ k) (sym f) ∙ e

-- and the item is one of the list
pub item_passes : {X : Type 0} (P : X → Type 0) (ys s t all : List X) (x : X) → ys ++ s ≡ all → s ≡ x ∷ t → All P all → P x
item_passes P ys s t all x e f each =
    let parts : ys ++ x ∷ t ≡ all = ap (λ k. ys ++ k) (sym f) ∙ e in
    All-contains P (ys ++ x ∷ t) x (rw parts each) (Contains-append_right ys (x ∷ t) x (0, omega arith, refl))

-- one more item is tested
pub filter_more : {X : Type 0} (p : X → Bool) (ys : List X) (x : X) (b : Bool) → p x ≡ b → filter p (ys ++ x ∷ []) ≡ filter p ys ++ cond b (x ∷ []) []
filter_more p ys x b e = filter-append p ys (x ∷ []) ∙ ap (λ t. filter p ys ++ cond t (x ∷ []) []) e

-- there is none in the empty list alone
pub none_of_none : (xs : List ℕ) → how_many xs ≡ no_index → xs ≡ []
none_of_none [] e = refl
none_of_none (i ∷ []) e = cc
none_of_none (i ∷ j ∷ rest) e = cc

-- the first that passes
pub first_passes : (p : ℕ → Bool) (ys : List ℕ) (i : ℕ) → how_many (filter p ys) ≡ no_index → p i ≡ true → one_index i ≡ how_many (filter p (ys ++ i ∷ []))
first_passes p ys i none passes =
    sym (ap how_many (filter_more p ys i true passes ∙ ap (λ k. k ++ i ∷ []) (none_of_none (filter p ys) none)))

-- ---- whether some index passes

-- whether there is an index
abbrev pub has_some : List ℕ → Bool
has_some [] = false
has_some (i ∷ rest) = true

pub any_passes : (p : ℕ → Bool) (xs : List ℕ) → list_any p xs ≡ has_some (filter p xs)
any_passes p [] = refl
any_passes p (x ∷ xs) = elim (p x) as (λ b. (b || list_any p xs) ≡ has_some (cond b (x ∷ filter p xs) (filter p xs))) [
  | true ↦ refl
  | false ↦ any_passes p xs
]

-- what the first of those that pass tells
pub some_common : (p : ℕ → Bool) (xs items rest : List ℕ) (next : Option ℕ) → MatchOption next (items ≡ []) (λ i. items ≡ i ∷ rest) → items ≡ filter p xs → is_some next ≡ list_any p xs
some_common p xs items rest None none are = sym (any_passes p xs ∙ ap has_some (sym are ∙ none))
some_common p xs items rest (Some i) first are = sym (any_passes p xs ∙ ap has_some (sym are ∙ first))

-- nothing passes
pub none_pass : (p : ℕ → Bool) (xs : List ℕ) → ((i : ℕ) → p i ≡ false) → false ≡ list_any p xs
none_pass p [] none = refl
none_pass p (x ∷ xs) none = none_pass p xs none ∙ ap (λ b. b || list_any p xs) (sym (none x))
