-- What holds of some value of a list, value by value.
use Rattle.std.proofs.Common.{◌≡◌, ℕ, zero, suc, ◌<◌, ◌⊎◌, List, [], ◌∷◌, length, Any, Contains, inl, inr, refl, arith}
use Rattle.std.specs.List.{slice_index_or}

-- the first value is so, or one of the others
abbrev pub OneOf : {A : Type 0} → (A → Type 0) → List A → Type 0
OneOf P [] = ⊥
OneOf P (x ∷ xs) = P x ⊎ OneOf P xs

-- some value is so: which
pub which : {A : Type 0} (P : A → Type 0) (xs : List A) → Any P xs → OneOf P xs
which {A} P xs = λ (k, z, within, found, holds). go xs k z within found holds
  where
    go : (xs : List A) (k : ℕ) (z : A) → k < length xs → slice_index_or xs k z ≡ z → P z
        → OneOf P xs
    go [] k z within found holds = omega (arith, within)
    go (x ∷ xs) zero z within found holds = inl (rw found holds)
    go (x ∷ xs) (suc k) z within found holds = inr (go xs k z (omega (arith, within)) found holds)

-- one of them is so, and so some value is
pub some : {A : Type 0} (P : A → Type 0) (xs : List A) → OneOf P xs → Any P xs
some P [] h = absurd h
some P (x ∷ xs) (inl h) = (0, x, omega arith, refl, h)
some P (x ∷ xs) (inr h) =
    let (k, z, within, found, holds) = some P xs h in
    (suc k, z, omega (arith, within), found, holds)

-- a list contains a value: which
pub which_is : {A : Type 0} (xs : List A) (y : A) → Contains xs y → OneOf (λ x. x ≡ y) xs
which_is xs y = λ (k, within, found). which _ xs (k, y, within, found, refl)
