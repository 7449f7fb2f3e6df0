-- Answers to the lines of an input.
use Rattle.std.proofs.Common.{◌≡◌, ◌⊎◌, ◌++◌, Bool, ℕ, List, [], ◌∷◌, inl, inr}
use Rattle.std.proofs.lemmas.Option.{IfSome_then}
use Rattle.facet_solver_tool.specs.Answer.{Answer, refused}
use Rattle.facet_solver_tool.specs.Lines.{AnswersAll, AnswersEach, AnswersFirst, AnswersLines, all_answered, for_all, no_more}
use Rattle.facet_solver_tool.specs.Streams.{Ran}

-- what follows from one of two follows from either
first_or : {P Q R : Type 0} → (P → Q) → P ⊎ R → Q ⊎ R
first_or f (inl p) = inl (f p)
first_or f (inr r) = inr r

-- answers by a relation are answers by each that follows from it
pub AnswersEach-weaker : {P Q : List ℕ → Answer → Type 0}
    → ((line : List ℕ) (a : Answer) → P line a → Q line a)
    → (lines : List (List ℕ)) (answers : List Answer) → AnswersEach P lines answers → AnswersEach Q lines answers
AnswersEach-weaker f [] [] each = tt
AnswersEach-weaker f [] (a ∷ answers) each = absurd each
AnswersEach-weaker f (line ∷ lines) [] each = absurd each
AnswersEach-weaker f (line ∷ lines) (a ∷ answers) each =
    (first_or (f line a) each.0, AnswersEach-weaker f lines answers each.1)

AnswersAll-weaker : {P Q : List ℕ → Answer → Type 0}
    → ((line : List ℕ) (a : Answer) → P line a → Q line a)
    → (answers : List Answer) (bytes : List ℕ) → AnswersAll P answers bytes → AnswersAll Q answers bytes
AnswersAll-weaker f answers bytes all = AnswersEach-weaker f _ answers all

AnswersFirst-weaker : {P Q : List ℕ → Answer → Type 0}
    → ((line : List ℕ) (a : Answer) → P line a → Q line a)
    → (answers : List Answer) (bytes : List ℕ) → AnswersFirst P answers bytes → AnswersFirst Q answers bytes
AnswersFirst-weaker f answers bytes some = record {
  first = some.first;
  rest = some.rest;
  both = some.both;
  answered = AnswersEach-weaker f some.first answers some.answered;
}

-- likewise a run
pub AnswersLines-weaker : {P Q : List ℕ → Answer → Type 0} {is_shown : Bool} {r : Ran}
    → ((line : List ℕ) (a : Answer) → P line a → Q line a)
    → AnswersLines P is_shown r → AnswersLines Q is_shown r
AnswersLines-weaker {r = r} f (all_answered answers count all counts ends status) =
    all_answered answers count (IfSome_then r.input all (AnswersAll-weaker f answers)) counts ends status
AnswersLines-weaker {r = r} f (no_more answers a some why ends status) =
    no_more answers a (IfSome_then r.input some (AnswersFirst-weaker f answers)) why ends status
AnswersLines-weaker f (for_all a why tells) = for_all a (first_or (λ each document. f document a (each document)) why) tells

-- one answer more
pub AnswersEach-more : (P : List ℕ → Answer → Type 0) (lines : List (List ℕ)) (answers : List Answer)
    (line : List ℕ) (a : Answer) → AnswersEach P lines answers → P line a ⊎ (a ≡ refused)
    → AnswersEach P (lines ++ line ∷ []) (answers ++ a ∷ [])
AnswersEach-more P [] [] line a each one = (one, tt)
AnswersEach-more P [] (b ∷ answers) line a each one = absurd each
AnswersEach-more P (l ∷ lines) [] line a each one = absurd each
AnswersEach-more P (l ∷ lines) (b ∷ answers) line a each one =
    (each.0, AnswersEach-more P lines answers line a each.1 one)
