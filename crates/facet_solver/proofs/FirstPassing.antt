-- How many of some indices pass a test, where the first that does is known.
use Rattle.std.proofs.Common.{◌≡◌, ℕ, Bool, true, false, ◌&&◌, ◌||◌, inl, inr, nat_eq, List, [], ◌∷◌, filter, refl, ap, sym, ◌∙◌, arith, eq-eqb, ne_eqb}
use Rattle.std.specs.List.{list_any}
use Rattle.std.proofs.lemmas.Bool.{and_right, cases_eq}
use Rattle.std.proofs.lemmas.List.Elements.{filter_passes}
use Rattle.facet_solver.specs.set.IndexSet.{several_indices, how_many}
use Rattle.facet_solver.proofs.IndexSet.{filter_filter}

-- none passes where not any does
pub none_left : (p : ℕ → Bool) (xs : List ℕ) → list_any p xs ≡ false → filter p xs ≡ []
none_left p [] none = refl
none_left p (x ∷ xs) none = go (p x) refl none (none_left p xs)
  where
    go : (b : Bool) → p x ≡ b → (b || list_any p xs) ≡ false → (list_any p xs ≡ false → filter p xs ≡ []) → filter p (x ∷ xs) ≡ []
    go true is none later = cc
    go false is none later = rw is (later none)

-- there are several where one more does
pub several_left : (p : ℕ → Bool) (i : ℕ) (xs : List ℕ) → list_any p xs ≡ true → several_indices ≡ how_many (i ∷ filter p xs)
several_left p i [] some = cc
several_left p i (x ∷ xs) some = go (p x) refl some (several_left p i xs)
  where
    go : (b : Bool) → p x ≡ b → (b || list_any p xs) ≡ true → (list_any p xs ≡ true → several_indices ≡ how_many (i ∷ filter p xs))
        → several_indices ≡ how_many (i ∷ filter p (x ∷ xs))
    go true is some later = rw is refl
    go false is some later = rw is (later some)

-- an index that passes is itself, and passes
agrees : (p : ℕ → Bool) (i j : ℕ) → p i ≡ true → (p j && nat_eq j i) ≡ nat_eq j i
agrees p i j passes =
    elim (cases_eq j i) [
      | inl same ↦ rw same (ap (λ b. b && nat_eq i i) passes)
      | inr other ↦ and_right (p j) (nat_eq j i) (ne_eqb j i other) ∙ sym (ne_eqb j i other)
    ]

-- the only index that passes is the only one that is itself
pub only_left : (p : ℕ → Bool) (i : ℕ) (xs : List ℕ) → filter p xs ≡ i ∷ [] → filter (λ j. nat_eq j i) xs ≡ filter p xs
only_left p i xs one =
    let passes : p i ≡ true = (rw one at (filter_passes p xs)) 0 0 (omega arith) in
    let alone : filter (λ j. nat_eq j i) (i ∷ []) ≡ i ∷ [] = rw (eq-eqb i i refl) refl in
    sym (filter_filter p (λ j. nat_eq j i) xs ∙ (λ k. filter (λ j. agrees p i j passes k) xs))
    ∙ ap (filter (λ j. nat_eq j i)) one
    ∙ alone
    ∙ sym one
