-- Uses in the order of the text, by a sort.
use Rattle.std.proofs.Common.{◌≡◌, ◌⊎◌, inl, inr, ℕ, zero, suc, ◌+◌, ◌<◌, ◌≤◌, ◌==◌, Bool, true, false, cond, List, [], ◌∷◌, ◌++◌, eqb, filter, flat_map, get_or, length, ltb, map, refl, sym, ap, ◌∙◌, arith}
use Rattle.std.specs.List.{range_with_len}
use Rattle.std.specs.List.Sorted.{IsNonDecreasingBy, IsStableByKey, ties}
use Rattle.std.specs.Ordering.{is_lt, nat_cmp}
use Rattle.std.proofs.lemmas.Bool.Decides.{nat_tests}
use Rattle.std.proofs.lemmas.Bool.{cases_eq, cases_lt, eq-eqb, eqb-true, le-ltb, lt-ltb, ne_eqb}
use Rattle.std.proofs.lemmas.List.{flat_map_more, map-append}
use Rattle.facet_solver_types.specs.Uses.{Use}
use Rattle.facet_solver_types.specs.UsedTypes.{text_order, uses_of}
use Rattle.facet_solver_types.proofs.Ranges.{range_more}

-- two tests that tell the same keep the same
filter_alike : {X : Type 0} (p q : X → Bool) → ((x : X) → p x ≡ q x) → (xs : List X) → filter p xs ≡ filter q xs
filter_alike p q alike [] = refl
filter_alike p q alike (x ∷ xs) =
    ap (λ b. cond b (x ∷ filter p xs) (filter p xs)) (alike x)
    ∙ ap (λ l. cond (q x) (x ∷ l) l) (filter_alike p q alike xs)

-- what is kept of what f makes
filter_made : {X Y : Type 0} (p : Y → Bool) (f : X → Y) (xs : List X)
    → filter p (map f xs) ≡ map f (filter (λ x. p (f x)) xs)
filter_made p f [] = refl
filter_made p f (x ∷ xs) =
    ap (λ l. cond (p (f x)) (f x ∷ l) l) (filter_made p f xs) ∙ go (p (f x))
  where
    go : (b : Bool) → cond b (f x ∷ map f (filter (λ x. p (f x)) xs)) (map f (filter (λ x. p (f x)) xs))
        ≡ map f (cond b (x ∷ filter (λ x. p (f x)) xs) (filter (λ x. p (f x)) xs))
    go true = refl
    go false = refl

-- an element that passes a test, or there is none
some_or_none : {X : Type 0} (p : X → Bool) (xs : List X) → ((x : X) × (p x ≡ true)) ⊎ (filter p xs ≡ [])
some_or_none p [] = inr refl
some_or_none {X = X} p (x ∷ xs) = go (p x) refl (some_or_none p xs)
  where
    go : (b : Bool) → p x ≡ b → ((x : X) × (p x ≡ true)) ⊎ (filter p xs ≡ [])
        → ((x : X) × (p x ≡ true)) ⊎ (filter p (x ∷ xs) ≡ [])
    go true passes rest = inl (x, passes)
    go false fails (inl found) = inl found
    go false fails (inr none) = inr (ap (λ b. cond b (x ∷ filter p xs) (filter p xs)) fails ∙ none)

-- two keys tie if they are one
tie : (m n : ℕ) → ties (λ x y. is_lt (nat_cmp x y)) m n ≡ eqb n m
tie m n = grind (arith, nat_tests)

module _ {X : Type 0} (n : X → ℕ) where
  -- those of one key stand in a stable sort as they stood
  same_key : (xs ys : List X) → IsStableByKey n nat_cmp xs ys → (i : ℕ)
      → filter (λ x. eqb (n x) i) ys ≡ filter (λ x. eqb (n x) i) xs
  same_key xs ys stable i =
      elim (some_or_none (λ x. eqb (n x) i) ys) [
        | inl found ↦ by found.0 found.1
        | inr none ↦ elim (some_or_none (λ x. eqb (n x) i) xs) [
          | inl found ↦ by found.0 found.1
          | inr never ↦ none ∙ sym never
        ]
      ]
    where
      keyed : (x : X) → eqb (n x) i ≡ true → (zs : List X)
          → filter (ties (λ x y. is_lt (nat_cmp (n x) (n y))) x) zs ≡ filter (λ y. eqb (n y) i) zs
      keyed x is zs =
          filter_alike _ _ (λ y. tie (n x) (n y) ∙ ap (eqb (n y)) (eqb-true (n x) i is)) zs

      by : (x : X) → eqb (n x) i ≡ true → filter (λ x. eqb (n x) i) ys ≡ filter (λ x. eqb (n x) i) xs
      by x is = sym (keyed x is ys) ∙ stable x ∙ keyed x is xs

  -- where all keys are past one, none is below it
  none_below : (k : ℕ) (zs : List X) → ((j : ℕ) (d : X) → j < length zs → k ≤ n (get_or zs j d))
      → filter (λ z. ltb (n z) k) zs ≡ []
  none_below k [] past = refl
  none_below k (z ∷ zs) past =
      ap (λ b. cond b (z ∷ filter (λ z. ltb (n z) k) zs) (filter (λ z. ltb (n z) k) zs))
      (le-ltb (n z) k (past 0 z (omega arith)))
      ∙ none_below k zs (λ j d less. past (suc j) d (omega arith))

  -- of rising keys those up to one are those below it, and then those of it
  below_more : (k : ℕ) (ys : List X) → IsNonDecreasingBy n ys
      → filter (λ y. ltb (n y) (k + 1)) ys ≡ filter (λ y. ltb (n y) k) ys ++ filter (λ y. eqb (n y) k) ys
  below_more k [] rising = refl
  below_more k (y ∷ ys) rising =
      go (below_more k ys (λ i j d up less. rising (suc i) (suc j) d (omega arith) (omega arith)))
    where
      upto : List X
      upto = filter (λ y. ltb (n y) (k + 1)) ys

      below : List X
      below = filter (λ y. ltb (n y) k) ys

      those : List X
      those = filter (λ y. eqb (n y) k) ys

      by : (a b c : Bool) → ltb (n y) (k + 1) ≡ a → ltb (n y) k ≡ b → eqb (n y) k ≡ c
          → cond a (y ∷ upto) upto ≡ cond b (y ∷ below) below ++ cond c (y ∷ those) those
          → filter (λ y. ltb (n y) (k + 1)) (y ∷ ys)
          ≡ filter (λ y. ltb (n y) k) (y ∷ ys) ++ filter (λ y. eqb (n y) k) (y ∷ ys)
      by a b c is was one same =
          ap (λ b. cond b (y ∷ upto) upto) is
          ∙ same
          ∙ sym (ap (λ b. cond b (y ∷ below) below ++ cond (eqb (n y) k) (y ∷ those) those) was
          ∙ ap (λ c. cond b (y ∷ below) below ++ cond c (y ∷ those) those) one)

      less : n y < k → upto ≡ below ++ those
          → filter (λ y. ltb (n y) (k + 1)) (y ∷ ys)
          ≡ filter (λ y. ltb (n y) k) (y ∷ ys) ++ filter (λ y. eqb (n y) k) (y ∷ ys)
      less low rest =
          by true true false (lt-ltb (n y) (k + 1) (omega arith)) (lt-ltb (n y) k low)
          (ne_eqb (n y) k (λ same. absurd (omega (arith, low, same)))) (ap (λ l. y ∷ l) rest)

      same : n y ≡ k → upto ≡ below ++ those
          → filter (λ y. ltb (n y) (k + 1)) (y ∷ ys)
          ≡ filter (λ y. ltb (n y) k) (y ∷ ys) ++ filter (λ y. eqb (n y) k) (y ∷ ys)
      same is rest =
          let none : below ≡ [] =
          none_below k ys (λ j d within. let up = rising 0 (suc j) d (omega arith) (omega arith) in omega (arith, is, up)) in
          by true false true (lt-ltb (n y) (k + 1) (omega (arith, is))) (le-ltb (n y) k (omega (arith, is)))
          (eq-eqb (n y) k is)
          (ap (λ l. y ∷ l) (rest ∙ ap (λ l. l ++ those) none) ∙ sym (ap (λ l. l ++ y ∷ those) none))

      more : k < n y → upto ≡ below ++ those
          → filter (λ y. ltb (n y) (k + 1)) (y ∷ ys)
          ≡ filter (λ y. ltb (n y) k) (y ∷ ys) ++ filter (λ y. eqb (n y) k) (y ∷ ys)
      more high rest =
          by false false false (le-ltb (n y) (k + 1) (omega arith)) (le-ltb (n y) k (omega arith))
          (ne_eqb (n y) k (λ same. absurd (omega (arith, high, same)))) rest

      go : upto ≡ below ++ those
          → filter (λ y. ltb (n y) (k + 1)) (y ∷ ys)
          ≡ filter (λ y. ltb (n y) k) (y ∷ ys) ++ filter (λ y. eqb (n y) k) (y ∷ ys)
      go rest =
          elim (cases_lt (n y) k) [
            | inl low ↦ less low rest
            | inr high ↦ elim (cases_eq (n y) k) [
              | inl is ↦ same is rest
              | inr other ↦ more (omega (arith, high, other)) rest
            ]
          ]

  -- rising keys, from key to key
  by_keys : (count : ℕ) (ys : List X) → IsNonDecreasingBy n ys
      → flat_map (λ i. filter (λ y. eqb (n y) i) ys) (range_with_len 0 count)
      ≡ filter (λ y. ltb (n y) count) ys
  by_keys zero ys rising = sym (none_below 0 ys (λ j d less. omega arith))
  by_keys (suc count) ys rising =
      let later : suc count ≡ count + 1 = omega arith in
      let those : (ℕ → List X) = λ i. filter (λ y. eqb (n y) i) ys in
      ap (λ m. flat_map those (range_with_len 0 m)) later
      ∙ ap (flat_map those) (range_more 0 count count (omega arith))
      ∙ sym (flat_map_more those [] (range_with_len 0 count) count)
      ∙ ap (λ l. l ++ those count) (by_keys count ys rising)
      ∙ sym (below_more count ys rising)
      ∙ ap (λ m. filter (λ y. ltb (n y) m) ys) (sym later)

-- two rules that give the same give the same lists
flat_alike : {A B : Type 0} (f g : A → List B) → ((a : A) → f a ≡ g a) → (xs : List A)
    → flat_map f xs ≡ flat_map g xs
flat_alike f g alike [] = refl
flat_alike f g alike (x ∷ xs) =
    ap (λ l. l ++ flat_map f xs) (alike x) ∙ ap (λ l. g x ++ l) (flat_alike f g alike xs)

-- what is made of lists is the lists of what is made
made_flat : {A B C : Type 0} (h : B → C) (f : A → List B) (xs : List A)
    → map h (flat_map f xs) ≡ flat_map (λ a. map h (f a)) xs
made_flat h f [] = refl
made_flat h f (x ∷ xs) =
    map-append h (f x) (flat_map f xs) ∙ ap (λ l. map h (f x) ++ l) (made_flat h f xs)

-- uses that were sorted by their indices, of which those are kept that are low
pub text_sorted : {X : Type 0} (view : X → Use) (xs ys : List X) (count : ℕ)
    → IsNonDecreasingBy (λ x. (view x).index) ys
    → IsStableByKey (λ x. (view x).index) nat_cmp xs ys
    → map view (filter (λ x. ltb (view x).index count) ys) ≡ text_order count (map view xs)
text_sorted {X} view xs ys count rising stable =
    ap (map view) (sym (by_keys (λ x. (view x).index) count ys rising))
    ∙ made_flat view (λ i. filter (λ x. eqb (view x).index i) ys) (range_with_len 0 count)
    ∙ flat_alike (λ i. map view (filter (λ x. eqb (view x).index i) ys)) (uses_of (map view xs))
    (λ i. ap (map view) (same_key (λ x. (view x).index) xs ys stable i)
    ∙ sym (filter_made (λ (u : Use). u.index == i) view xs))
    (range_with_len 0 count)
