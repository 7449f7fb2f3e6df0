-- How far the lines of an input are answered.
use Rattle.std.proofs.Common.{◌≡◌, ◌⊎◌, ◌++◌, ◌∙◌, ◌<◌, ℕ, List, [], ◌∷◌, Option, None, Some, Ok, Result, IfSome, append-nil, append_assoc, ap, length, refl, subst, sym}
use Rattle.std.proofs.lemmas.Option.{IfSome_then}
use Rattle.std.specs.Io.BufRead.{DropsThrough, drop_through, first_piece}
use Rattle.std.specs.Io.Iter.{YieldsKnownPiece}
use Rattle.std.specs.Io.KnownBytes.{IsAtEnd}
use Rattle.facet_solver_tool.specs.Answer.{Answer, refused}
use Rattle.facet_solver_tool.specs.InputLines.{lines_of}
use Rattle.facet_solver_tool.specs.Lines.{AnswersAll, AnswersEach, AnswersFirst}
use Rattle.facet_solver_tool.proofs.EachLine.{AnswersEach-more}
use Rattle.facet_solver_tool.proofs.FirstLine.{lines_begin}

-- answers to the first lines of bytes, and what is left of the bytes behind them
pub record SoFar (P : List ℕ → Answer → Type 0) (answers : List Answer) (left : Option (List ℕ)) (bytes : List ℕ) : Type 0 where
  pub rest : List ℕ
  pub is_left : left ≡ Some rest
  pub first : List (List ℕ)
  pub both : lines_of bytes ≡ first ++ lines_of rest
  pub answered : AnswersEach P first answers

-- none yet
pub so_far_none : (P : List ℕ → Answer → Type 0) (whole left : Option (List ℕ)) → left ≡ whole
    → IfSome whole (SoFar P [] left)
so_far_none P None left is = tt
so_far_none P (Some bytes) left is =
    record { rest = bytes; is_left = is; first = []; both = refl; answered = tt }

-- what is left begins with a line, and the rest is left behind it
abbrev LineOf : Option (List ℕ) → List ℕ → Option (List ℕ) → Type 0
LineOf left line next =
    IfSome left (λ xs. (0 < length xs) × (line ≡ first_piece 10 xs)) × DropsThrough left next 10

-- one line more
more : (P : List ℕ → Answer → Type 0) (answers : List Answer) (left next : Option (List ℕ)) (line : List ℕ) (a : Answer)
    → LineOf left line next → P line a ⊎ (a ≡ refused)
    → (bytes : List ℕ) → SoFar P answers left bytes → SoFar P (answers ++ a ∷ []) next bytes
more P answers left next line a taken one bytes so_far =
    let rest = so_far.rest in
    let now = subst (λ o. LineOf o line next) so_far.is_left taken in
    let begins = lines_begin rest now.0.0 ∙ ap (λ l. l ∷ lines_of (drop_through 10 rest)) (sym now.0.1) in
    record {
      rest = drop_through 10 rest;
      is_left = now.1;
      first = so_far.first ++ line ∷ [];
      both = so_far.both ∙ ap (λ ls. so_far.first ++ ls) begins ∙ sym (append_assoc so_far.first (line ∷ []) (lines_of (drop_through 10 rest)));
      answered = AnswersEach-more P so_far.first answers line a so_far.answered one;
    }

pub so_far_more : (P : List ℕ → Answer → Type 0) (answers : List Answer) (whole left next : Option (List ℕ)) (line : List ℕ) (a : Answer)
    → IfSome whole (SoFar P answers left)
    → IfSome left (λ xs. (0 < length xs) × (line ≡ first_piece 10 xs)) × DropsThrough left next 10
    → P line a ⊎ (a ≡ refused) → IfSome whole (SoFar P (answers ++ a ∷ []) next)
so_far_more P answers whole left next line a so_far taken one =
    IfSome_then whole so_far (more P answers left next line a taken one)

-- where none are left all are answered
all : (P : List ℕ → Answer → Type 0) (answers : List Answer) (left : Option (List ℕ)) → IsAtEnd left
    → (bytes : List ℕ) → SoFar P answers left bytes → AnswersAll P answers bytes
all P answers left at_end bytes so_far =
    let none : so_far.rest ≡ [] = subst IsAtEnd so_far.is_left at_end in
    let same = so_far.both ∙ ap (λ r. so_far.first ++ lines_of r) none ∙ append-nil so_far.first in
    subst (λ ls. AnswersEach P ls answers) (sym same) so_far.answered

pub so_far_all : (P : List ℕ → Answer → Type 0) (answers : List Answer) (whole left : Option (List ℕ))
    → IfSome whole (SoFar P answers left) → IsAtEnd left → IfSome whole (AnswersAll P answers)
so_far_all P answers whole left so_far at_end = IfSome_then whole so_far (all P answers left at_end)

-- the first are answered
first : (P : List ℕ → Answer → Type 0) (answers : List Answer) (left : Option (List ℕ))
    → (bytes : List ℕ) → SoFar P answers left bytes → AnswersFirst P answers bytes
first P answers left bytes so_far =
    record { first = so_far.first; rest = lines_of so_far.rest; both = so_far.both; answered = so_far.answered }

pub so_far_first : (P : List ℕ → Answer → Type 0) (answers : List Answer) (whole left : Option (List ℕ))
    → IfSome whole (SoFar P answers left) → IfSome whole (AnswersFirst P answers)
so_far_first P answers whole left so_far = IfSome_then whole so_far (first P answers left)

-- a piece that ends at a line feed is a line
pub line_taken : {X E : Type 0} (bytes : X → List ℕ) (byte : ℕ) (old new : Option (List ℕ)) (item : Result X E) (x : X)
    → byte ≡ 10 → item ≡ Ok x → YieldsKnownPiece bytes (first_piece byte) byte old (Some item) new
    → IfSome old (λ xs. (0 < length xs) × (bytes x ≡ first_piece 10 xs)) × DropsThrough old new 10
line_taken {X = X} {E = E} bytes byte old new item x is ok piece =
    subst (λ b. YieldsKnownPiece {E = E} bytes (first_piece b) b old (Some (Ok x)) new) is
    (subst (λ i. YieldsKnownPiece {E = E} bytes (first_piece byte) byte old (Some i) new) ok piece)
