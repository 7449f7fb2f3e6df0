-- Lists with commas.
use Rattle.std.specs.Prelude.{ℕ, zero, suc, List, [], ◌∷◌, Result, Ok, Err}
use Rattle.facet_solver_types.specs.declared.fault.Fault.{Fault}
use Rattle.facet_solver_types.specs.declared.grammar.run.Run.{Run}
use Rattle.facet_solver_types.specs.Passages.{Passage, up_to}
use Rattle.facet_solver_types.specs.Runs.{run_len}
use Rattle.facet_solver_types.specs.Tokens.{Token}

-- what follows an outcome that has no fault
abbrev pub and_then : {A B : Type 0} → Result A Fault → (A → Result B Fault) → Result B Fault
and_then (Ok value) later = later value
and_then (Err fault) later = Err fault

-- the parts of tokens between commas outside brackets, after the first that were `passed`
unfoldable pub pieces_from : Run → ℕ → ℕ → List Token → List Passage
pieces_from run end passed [] = []
pieces_from run end (suc passed) (token ∷ tokens) = pieces_from run end passed tokens
pieces_from run end zero (token ∷ tokens) =
    let len = run_len run (token ∷ tokens) in
    up_to len (record { tokens = token ∷ tokens; end = end }) ∷ pieces_from run end len tokens

-- the parts of a passage between commas outside brackets
abbrev pub pieces : Run → Passage → List Passage
pieces run passage = pieces_from run passage.end 0 passage.tokens

-- what a rule reads of each of some parts, or the first fault
abbrev pub each : {A : Type 0} → (Passage → Result A Fault) → List Passage → Result (List A) Fault
each rule [] = Ok []
each rule (piece ∷ others) =
    and_then (rule piece) (λ value. and_then (each rule others) (λ values. Ok (value ∷ values)))
