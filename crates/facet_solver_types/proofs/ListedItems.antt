-- The items of a text, a piece at a time.
use Rattle.std.proofs.Common.{◌≡◌, ℕ, zero, suc, ◌-◌, ◌<◌, List, [], ◌∷◌, ◌++◌, length, drop, Result, Ok, Err, refl, ap, sym, ◌∙◌, arith, append_assoc, append-nil}
use Rattle.facet_solver_types.specs.declared.fault.Fault.{Fault}
use Rattle.facet_solver_types.specs.Declarations.{ModuleItem}
use Rattle.facet_solver_types.specs.Enclosings.{Enclosing, Piece, around_after, context_of, items_of}
use Rattle.facet_solver_types.specs.Items.{items_from, items_in, piece, then_items}
use Rattle.facet_solver_types.specs.Passages.{Passage, after, up_to}
use Rattle.facet_solver_types.specs.Pieces.{and_then}
use Rattle.facet_solver_types.specs.Starts.{piece_len}
use Rattle.facet_solver_types.specs.Tokens.{Token}
use Rattle.facet_solver_types.proofs.Listed.{before}
use Rattle.facet_solver_types.proofs.Views.{passage_of}

-- the tokens of a piece are passed over
passed : (around : List Enclosing) (end n : ℕ) (ts : List Token) → items_from around end n ts ≡ items_from around end 0 (drop n ts)
unfolding items_from
passed around end zero ts = refl
passed around end (suc n) [] = refl
passed around end (suc n) (t ∷ ts) = passed around end n ts

-- those of a piece that has some
on : (around : List Enclosing) (end n : ℕ) (t : Token) (ts : List Token) → 0 < n → items_from around end (n - 1) ts ≡ items_from around end 0 (drop n (t ∷ ts))
on around end zero t ts some = absurd (omega arith)
on around end (suc n) t ts some = let less : suc n - 1 ≡ n = omega arith in ap (λ k. items_from around end k ts) less ∙ passed around end n ts

-- the first piece, and the items after it
first : (around : List Enclosing) (end : ℕ) (t : Token) (ts : List Token) (len : ℕ) → len ≡ piece_len (context_of around) (t ∷ ts) → items_from around end 0 (t ∷ ts) ≡ then_items around (piece around (up_to len (passage_of end (t ∷ ts)))) (λ around. items_from around end (len - 1) ts)
unfolding items_from
first around end t ts len len_is = ap (λ n. then_items around (piece around (up_to n (passage_of end (t ∷ ts)))) (λ around. items_from around end (n - 1) ts)) (sym len_is)

-- the items of a piece, and those after it
abbrev with_items : List Enclosing → Piece → Result (List ModuleItem) Fault → Result (List ModuleItem) Fault
with_items around x others = and_then others (λ items. Ok (items_of around x ++ items))

-- a piece with a fault
piece_fault : (around : List Enclosing) (left : Passage) (len : ℕ) (fault : Fault) → 0 < length left.tokens → len ≡ piece_len (context_of around) left.tokens → piece around (up_to len left) ≡ Err fault → items_in around left ≡ Err fault
piece_fault around left len fault some len_is e = at left.tokens some len_is e
  where
    at : (ts : List Token) → 0 < length ts → len ≡ piece_len (context_of around) ts → piece around (up_to len (passage_of left.end ts)) ≡ Err fault → items_from around left.end 0 ts ≡ Err fault
    at [] some len_is e = absurd (omega arith)
    at (t ∷ ts) some len_is e = first around left.end t ts len len_is ∙ ap (λ r. then_items around r (λ around. items_from around left.end (len - 1) ts)) e

-- a piece that is read
piece_ok : (around : List Enclosing) (left : Passage) (len : ℕ) (x : Piece) → 0 < length left.tokens → 0 < len → len ≡ piece_len (context_of around) left.tokens → piece around (up_to len left) ≡ Ok x → items_in around left ≡ with_items around x (items_in (around_after x around) (after len left))
piece_ok around left len x some filled len_is e = at left.tokens some len_is e
  where
    at : (ts : List Token) → 0 < length ts → len ≡ piece_len (context_of around) ts → piece around (up_to len (passage_of left.end ts)) ≡ Ok x → items_from around left.end 0 ts ≡ with_items around x (items_from (around_after x around) left.end 0 (drop len ts))
    at [] some len_is e = absurd (omega arith)
    at (t ∷ ts) some len_is e =
        first around left.end t ts len len_is ∙ ap (λ r. then_items around r (λ around. items_from around left.end (len - 1) ts)) e
        ∙ ap (with_items around x) (on (around_after x around) left.end len t ts filled)

-- items that were found go before those of a piece
several : (found xs : List ModuleItem) (r : Result (List ModuleItem) Fault) → before found (and_then r (λ items. Ok (xs ++ items))) ≡ before (found ++ xs) r
several found xs (Ok later) = ap Ok (sym (append_assoc found xs later))
several found xs (Err fault) = refl

-- a turn of a loop over the pieces of a passage
module _ (around : List Enclosing) (found : List ModuleItem) (left : Passage) (len : ℕ) (part : Passage) (some : 0 < length left.tokens) (filled : 0 < len) (len_is : len ≡ piece_len (context_of around) left.tokens) (part_is : part ≡ up_to len left) where
  pub item_fault : (fault : Fault) → piece around part ≡ Err fault → before found (items_in around left) ≡ Err fault
  item_fault fault e = ap (before found) (piece_fault around left len fault some len_is (ap (piece around) (sym part_is) ∙ e))

  pub item_ok : (rest : Passage) (x : Piece) → rest ≡ after len left → piece around part ≡ Ok x → before found (items_in around left) ≡ before (found ++ items_of around x) (items_in (around_after x around) rest)
  item_ok rest x rest_is e =
      ap (before found) (piece_ok around left len x some filled len_is (ap (piece around) (sym part_is) ∙ e))
      ∙ several found (items_of around x) (items_in (around_after x around) (after len left))
      ∙ ap (λ p. before (found ++ items_of around x) (items_in (around_after x around) p)) (sym rest_is)

-- all were read
pub items_read : (around : List Enclosing) (found : List ModuleItem) (left : Passage) → length left.tokens ≡ 0 → before found (items_in around left) ≡ Ok found
unfolding items_from
items_read around found left none = ap (before found) (over left.tokens none) ∙ ap Ok (append-nil found)
  where
    over : (ts : List Token) → length ts ≡ 0 → items_from around left.end 0 ts ≡ Ok []
    over [] none = refl
    over (t ∷ ts) none = absurd (omega arith)
