-- Shapes as long as they are few.
use Rattle.std.proofs.Common.{◌≡◌, ◌≤◌, ℕ, Bool, true, false, ◌||◌, List, [], ◌∷◌, ◌++◌, length, length-append, nat_eq, refl, ap, ◌∙◌, arith}
use Rattle.std.specs.Prelude.{if◌then◌else◌, nat_lt}
use Rattle.std.proofs.lemmas.Bool.Decides.{Decides-eqb, Decides-ltb}
use Rattle.std.proofs.lemmas.List.Folds.{list_any-append}
use Rattle.facet_solver.specs.schema.FewShapes.{few_shapes_with, has_shape, most_shapes}

or_true : (b : Bool) → (b || true) ≡ true
or_true true = refl
or_true false = refl

-- a shape that is there stays
pub few_keeps : (shapes : List ℕ) (s x : ℕ) → has_shape shapes x ≡ true → has_shape (few_shapes_with shapes s) x ≡ true
few_keeps shapes s x has = go (nat_lt most_shapes (length shapes) || has_shape shapes s)
  where
    go : (b : Bool) → has_shape (if b then shapes else shapes ++ s ∷ []) x ≡ true
    go true = has
    go false = list_any-append (λ y. nat_eq y x) shapes (s ∷ []) ∙ ap (λ b. b || (nat_eq s x || false)) has

-- fewer shapes were few before
pub few_before : (shapes : List ℕ) (s : ℕ) → length (few_shapes_with shapes s) ≤ most_shapes → length shapes ≤ most_shapes
few_before shapes s = go (nat_lt most_shapes (length shapes) || has_shape shapes s)
  where
    go : (b : Bool) → length (if b then shapes else shapes ++ s ∷ []) ≤ most_shapes → length shapes ≤ most_shapes
    go true few = few
    go false few = omega (arith, length-append shapes (s ∷ []), few)

-- where they are few, the one that is added is there
pub few_has : (shapes : List ℕ) (s : ℕ) → length (few_shapes_with shapes s) ≤ most_shapes → has_shape (few_shapes_with shapes s) s ≡ true
few_has shapes s few = go (has_shape shapes s) refl
  where
    none_more : nat_lt most_shapes (length shapes) ≡ true → length shapes ≤ most_shapes → ⊥
    none_more many low = omega (arith, (Decides-ltb most_shapes (length shapes)).0 many, low)

    new : (b : Bool) → nat_lt most_shapes (length shapes) ≡ b → has_shape (if b || false then shapes else shapes ++ s ∷ []) s ≡ true
    new true many = absurd (none_more many (few_before shapes s few))
    new false low =
        list_any-append (λ y. nat_eq y s) shapes (s ∷ [])
        ∙ ap (λ b. has_shape shapes s || (b || false)) ((Decides-eqb s s).1 refl)
        ∙ or_true (has_shape shapes s)

    go : (b : Bool) → has_shape shapes s ≡ b → has_shape (if nat_lt most_shapes (length shapes) || b then shapes else shapes ++ s ∷ []) s ≡ true
    go true has = old (nat_lt most_shapes (length shapes))
      where
        old : (b : Bool) → has_shape (if b || true then shapes else shapes ++ s ∷ []) s ≡ true
        old true = has
        old false = has
    go false absent = new (nat_lt most_shapes (length shapes)) refl
