-- Parameters, one at a time.
use Rattle.std.proofs.Common.{◌≡◌, ℕ, ◌+◌, ◌<◌, List, ◌∷◌, ◌++◌, length, Option, Some, None, option_map, Result, Ok, Err, refl, ap, sym, ◌∙◌, append_assoc, append-nil}
use Rattle.std.specs.List.{flat_map}
use Rattle.std.specs.Option.{option_to_list}
use Rattle.facet_solver_types.specs.declared.fault.Fault.{Fault}
use Rattle.facet_solver_types.specs.declared.grammar.run.Run.TheVariants.{FieldType}
use Rattle.facet_solver_types.specs.declared.item.Parameter as declared
use Rattle.facet_solver_types.specs.Declarations.{Parameter, parameter_view, parameters_view}
use Rattle.facet_solver_types.specs.Parameters.{parameter, parameters_in}
use Rattle.facet_solver_types.specs.Passages.{Passage, after, up_to}
use Rattle.facet_solver_types.specs.Pieces.{and_then, each, pieces}
use Rattle.facet_solver_types.specs.Runs.{run_len}
use Rattle.facet_solver_types.proofs.Listed.{before, pieces_more, pieces_none, view_more}

-- the parameters of some parts
abbrev of_parts : List Passage → Result (List Parameter) Fault
of_parts parts = and_then (each parameter parts) (λ found. Ok (flat_map option_to_list found))

-- those of what was read of a part and of the others
abbrev with_part : Result (Option Parameter) Fault → List Passage → Result (List Parameter) Fault
with_part read others =
    and_then (and_then read (λ value. and_then (each parameter others) (λ values. Ok (value ∷ values))))
    (λ found. Ok (flat_map option_to_list found))

one : (found : List Parameter) (x : Option Parameter) (r : Result (List (Option Parameter)) Fault) → before found (and_then (and_then r (λ xs. Ok (x ∷ xs))) (λ xs. Ok (flat_map option_to_list xs))) ≡ before (found ++ option_to_list x) (and_then r (λ xs. Ok (flat_map option_to_list xs)))
one found x (Ok later) = ap Ok (sym (append_assoc found (option_to_list x) (flat_map option_to_list later)))
one found x (Err fault) = refl

-- a turn of a loop over the parameters of a passage
module _ (found : List Parameter) (left : Passage) (len : ℕ) (piece : Passage) (some : 0 < length left.tokens) (len_is : len ≡ run_len FieldType left.tokens) (piece_is : piece ≡ up_to len left) where
  first : before found (parameters_in left) ≡ before found (with_part (parameter piece) (pieces FieldType (after (len + 1) left)))
  first =
      ap (λ ps. before found (of_parts ps)) (pieces_more FieldType left some)
      ∙ ap (λ k. before found (with_part (parameter (up_to k left)) (pieces FieldType (after (k + 1) left)))) (sym len_is)
      ∙ ap (λ p. before found (with_part (parameter p) (pieces FieldType (after (len + 1) left)))) (sym piece_is)

  pub parameter_fault : (fault : Fault) → parameter piece ≡ Err fault → before found (parameters_in left) ≡ Err fault
  parameter_fault fault e = first ∙ ap (λ r. before found (with_part r (pieces FieldType (after (len + 1) left)))) e

  pub parameter_ok : (rest : Passage) (x : Option Parameter) → rest ≡ after (len + 1) left → parameter piece ≡ Ok x → before found (parameters_in left) ≡ before (found ++ option_to_list x) (parameters_in rest)
  parameter_ok rest x rest_is e =
      first ∙ ap (λ r. before found (with_part r (pieces FieldType (after (len + 1) left)))) e
      ∙ one found x (each parameter (pieces FieldType (after (len + 1) left)))
      ∙ ap (λ p. before (found ++ option_to_list x) (parameters_in p)) (sym rest_is)

-- all were read
pub parameters_read : (found : List Parameter) (left : Passage) → length left.tokens ≡ 0 → before found (parameters_in left) ≡ Ok found
parameters_read found left none = ap (λ ps. before found (of_parts ps)) (pieces_none FieldType left none) ∙ ap Ok (append-nil found)

-- one more is seen, or none
pub parameters_more : (xs : List declared.Parameter) (x : Option declared.Parameter) → parameters_view (xs ++ option_to_list x) ≡ parameters_view xs ++ option_to_list (option_map parameter_view x)
parameters_more xs (Some x) = view_more parameter_view xs x
parameters_more xs None = ap parameters_view (append-nil xs) ∙ sym (append-nil (parameters_view xs))
