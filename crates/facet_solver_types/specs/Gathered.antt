-- What a rule reads of each element of a list.
use Rattle.std.specs.Prelude.{ℕ, ◌+◌, List, [], ◌∷◌, ◌++◌, Option, Result, Ok}
use Rattle.std.specs.Option.{option_to_list}
use Rattle.facet_solver_types.specs.declared.fault.Fault.{Fault}
use Rattle.facet_solver_types.specs.Pieces.{and_then}

-- a rule that reads something or nothing of an element with a number
abbrev pub Rule : Type 0 → Type 0 → Type 0
Rule A B = ℕ → A → Result (Option B) Fault

-- what a rule that has no faults reads of elements, which are numbered from one on
abbrev pub kept : {A B : Type 0} → (ℕ → A → Option B) → ℕ → List A → List B
kept rule number [] = []
kept rule number (x ∷ xs) = option_to_list (rule number x) ++ kept rule (number + 1) xs

-- what a rule reads of elements, which are numbered from one on, or the first fault
abbrev pub gathered : {A B : Type 0} → Rule A B → ℕ → List A → Result (List B) Fault
gathered rule number [] = Ok []
gathered rule number (x ∷ xs) =
    and_then (rule number x)
    (λ found. and_then (gathered rule (number + 1) xs)
    (λ others. Ok (option_to_list found ++ others)))
