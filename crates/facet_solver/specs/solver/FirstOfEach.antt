-- Items that each have a shape: whether one has a given shape, and the first of each shape.
use Rattle.std.specs.Prelude.{ℕ, Bool, List, [], ◌∷◌, filter, nat_eq, not}
use Rattle.std.specs.List.{list_any}

-- whether one of some items has a shape
abbrev pub is_among : {X : Type 0} → (X → ℕ) → List X → ℕ → Bool
is_among shape_of xs shape = list_any (λ x. nat_eq (shape_of x) shape) xs

-- of some items the first of each shape
abbrev pub first_of_each : {X : Type 0} → (X → ℕ) → List X → List X
first_of_each shape_of [] = []
first_of_each shape_of (x ∷ xs) =
    x ∷ filter (λ y. not (nat_eq (shape_of y) (shape_of x))) (first_of_each shape_of xs)
