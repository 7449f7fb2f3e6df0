-- The shapes of some fields, each once, as long as they are few.
use Rattle.std.specs.Prelude.{ℕ, Bool, List, [], ◌∷◌, ◌++◌, ◌||◌, Option, None, Some, if◌then◌else◌, length, nat_lt}
use Rattle.facet_solver.specs.solver.FirstOfEach.{is_among}

-- so many shapes are few
abbrev pub most_shapes : ℕ
most_shapes = 7

-- whether a shape is among some
abbrev pub has_shape : List ℕ → ℕ → Bool
has_shape shapes shape = is_among (λ s. s) shapes shape

-- one shape more, if it is new, and they are few
abbrev pub few_shapes_with : List ℕ → ℕ → List ℕ
few_shapes_with shapes shape =
    if nat_lt most_shapes (length shapes) || has_shape shapes shape
    then shapes else shapes ++ shape ∷ []

-- all of them, if they are few
abbrev pub all_shapes : List ℕ → Option (List ℕ)
all_shapes shapes = if nat_lt most_shapes (length shapes) then None else Some shapes
