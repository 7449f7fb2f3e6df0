-- A list with commas, a part at a time.
use Rattle.std.proofs.Common.{◌≡◌, ℕ, zero, suc, ◌+◌, ◌<◌, List, [], ◌∷◌, ◌++◌, length, drop, map, Result, Ok, Err, refl, ap, sym, ◌∙◌, arith, append_assoc, append-nil, add-one}
use Rattle.facet_solver_types.specs.declared.fault.Fault.{Fault}
use Rattle.facet_solver_types.specs.declared.grammar.run.Run.{Run}
use Rattle.facet_solver_types.specs.Passages.{Passage, after, up_to}
use Rattle.facet_solver_types.specs.Pieces.{and_then, each, pieces, pieces_from}
use Rattle.facet_solver_types.specs.Runs.{run_len}
use Rattle.facet_solver_types.specs.Tokens.{Token}

-- what was read, and then the rest
abbrev pub before : {A : Type 0} → List A → Result (List A) Fault → Result (List A) Fault
before found (Ok later) = Ok (found ++ later)
before found (Err fault) = Err fault

pub before_none : {A : Type 0} (r : Result (List A) Fault) → r ≡ before [] r
before_none (Ok later) = refl
before_none (Err fault) = refl

-- the tokens of a part are passed over
passed : (run : Run) (end n : ℕ) (ts : List Token) → pieces_from run end n ts ≡ pieces_from run end 0 (drop n ts)
unfolding pieces_from
passed run end zero ts = refl
passed run end (suc n) [] = refl
passed run end (suc n) (t ∷ ts) = passed run end n ts

-- the first part, and the others
pub pieces_more : (run : Run) (p : Passage) → 0 < length p.tokens → pieces run p ≡ up_to (run_len run p.tokens) p ∷ pieces run (after (run_len run p.tokens + 1) p)
unfolding pieces_from
pieces_more run p some = more p.tokens some
  where
    more : (ts : List Token) → 0 < length ts → pieces_from run p.end 0 ts ≡ up_to (run_len run ts) (record { tokens = ts; end = p.end }) ∷ pieces_from run p.end 0 (drop (run_len run ts + 1) ts)
    more [] some = absurd (omega arith)
    more (t ∷ ts) some =
        let n = run_len run (t ∷ ts) in
        ap (λ l. up_to n (record { tokens = t ∷ ts; end = p.end }) ∷ l) (passed run p.end n ts ∙ ap (λ k. pieces_from run p.end 0 (drop k (t ∷ ts))) (sym (add-one n)))

-- no part
pub pieces_none : (run : Run) (p : Passage) → length p.tokens ≡ 0 → pieces run p ≡ []
unfolding pieces_from
pieces_none run p none = over p.tokens none
  where
    over : (ts : List Token) → length ts ≡ 0 → pieces_from run p.end 0 ts ≡ []
    over [] none = refl
    over (t ∷ ts) none = absurd (omega arith)

module _ {A : Type 0} (rule : Passage → Result A Fault) where
  one : (found : List A) (x : A) (r : Result (List A) Fault) → before found (and_then r (λ xs. Ok (x ∷ xs))) ≡ before (found ++ x ∷ []) r
  one found x (Ok later) = ap Ok (sym (append_assoc found (x ∷ []) later))
  one found x (Err fault) = refl

  -- a part that is read
  pub each_more : (found : List A) (piece : Passage) (others : List Passage) (x : A) → rule piece ≡ Ok x → before found (each rule (piece ∷ others)) ≡ before (found ++ x ∷ []) (each rule others)
  each_more found piece others x e = ap (λ r. before found (and_then r (λ value. and_then (each rule others) (λ values. Ok (value ∷ values))))) e ∙ one found x (each rule others)

  -- a part with a fault
  pub each_fault : (found : List A) (piece : Passage) (others : List Passage) (fault : Fault) → rule piece ≡ Err fault → before found (each rule (piece ∷ others)) ≡ Err fault
  each_fault found piece others fault e = ap (λ r. before found (and_then r (λ value. and_then (each rule others) (λ values. Ok (value ∷ values))))) e

-- a turn of a loop over the parts of a passage
module _ {A : Type 0} (run : Run) (rule : Passage → Result A Fault) (found : List A) (left : Passage) (len : ℕ) (piece : Passage) (some : 0 < length left.tokens) (len_is : len ≡ run_len run left.tokens) (piece_is : piece ≡ up_to len left) where
  first : before found (each rule (pieces run left)) ≡ before found (each rule (piece ∷ pieces run (after (len + 1) left)))
  first =
      ap (λ ps. before found (each rule ps)) (pieces_more run left some)
      ∙ ap (λ k. before found (each rule (up_to k left ∷ pieces run (after (k + 1) left)))) (sym len_is)
      ∙ ap (λ p. before found (each rule (p ∷ pieces run (after (len + 1) left)))) (sym piece_is)

  pub turn_fault : (fault : Fault) → rule piece ≡ Err fault → before found (each rule (pieces run left)) ≡ Err fault
  turn_fault fault e = first ∙ each_fault rule found piece (pieces run (after (len + 1) left)) fault e

  pub turn_ok : (rest : Passage) (x : A) → rest ≡ after (len + 1) left → rule piece ≡ Ok x → before found (each rule (pieces run left)) ≡ before (found ++ x ∷ []) (each rule (pieces run rest))
  turn_ok rest x rest_is e =
      first ∙ each_more rule found piece (pieces run (after (len + 1) left)) x e
      ∙ ap (λ p. before (found ++ x ∷ []) (each rule (pieces run p))) (sym rest_is)

-- all were read
pub all_read : {A : Type 0} (run : Run) (rule : Passage → Result A Fault) (found : List A) (left : Passage) → length left.tokens ≡ 0 → before found (each rule (pieces run left)) ≡ Ok found
all_read run rule found left none = ap (λ ps. before found (each rule ps)) (pieces_none run left none) ∙ ap Ok (append-nil found)

-- one more is seen
pub view_more : {A B : Type 0} (view : A → B) (xs : List A) (x : A) → map view (xs ++ x ∷ []) ≡ map view xs ++ view x ∷ []
view_more view [] x = refl
view_more view (y ∷ xs) x = ap (λ l. view y ∷ l) (view_more view xs x)
