-- What is answered about each line of an input.
use Rattle.std.specs.Prelude.{◌≡◌, ◌⊎◌, ◌++◌, ⊤, Bool, false, ℕ, List, [], ◌∷◌, Option, IfSome, codes, flat_map}
use Rattle.std.specs.Fmt.{decimal}
use Rattle.std.specs.Io.KnownBytes.{Appends}
use Rattle.facet_solver_tool.specs.declared.count.Count.{Count}
use Rattle.facet_solver_tool.specs.declared.status.Status.{Status}
use Rattle.facet_solver_tool.specs.declared.status.Status.TheVariants.{Answered, Misused}
use Rattle.facet_solver_tool.specs.Answer.{Answer, refused}
use Rattle.facet_solver_tool.specs.Counts.{Counts, count_text, worst}
use Rattle.facet_solver_tool.specs.InputLines.{lines_of}
use Rattle.facet_solver_tool.specs.QuotedText.{quoted}
use Rattle.facet_solver_tool.specs.Status.{code}
use Rattle.facet_solver_tool.specs.Streams.{Ran, Streams, EndsWith}

-- the line of JSON for a status and a text: the reading, or the status and why there is none
abbrev pub line_of : Status → List ℕ → List ℕ
line_of Answered text = codes "{\"reading\": " ++ (text ++ codes "}\n")
line_of status text =
    codes "{\"status\": " ++ (decimal (code status)
    ++ (codes ", \"error\": " ++ (quoted text ++ codes "}\n")))

-- the line of JSON for an answer
abbrev pub answer_line : Answer → List ℕ
answer_line a = line_of a.status a.text

-- answers to lines, one to each in turn; memory may have been refused for any
abbrev pub AnswersEach : (List ℕ → Answer → Type 0) → List (List ℕ) → List Answer → Type 0
AnswersEach P [] [] = ⊤
AnswersEach P [] (a ∷ answers) = ⊥
AnswersEach P (line ∷ lines) [] = ⊥
AnswersEach P (line ∷ lines) (a ∷ answers) =
    (P line a ⊎ (a ≡ refused)) × AnswersEach P lines answers

-- answers to all lines of bytes
abbrev pub AnswersAll : (List ℕ → Answer → Type 0) → List Answer → List ℕ → Type 0
AnswersAll P answers bytes = AnswersEach P (lines_of bytes) answers

-- answers to the first lines of bytes
pub record AnswersFirst (P : List ℕ → Answer → Type 0) (answers : List Answer) (bytes : List ℕ)
    : Type 0 where
  pub first : List (List ℕ)
  pub rest : List (List ℕ)
  pub both : lines_of bytes ≡ first ++ rest
  pub answered : AnswersEach P first answers

-- what is shown while a run goes on: nothing, where it is not to be shown
abbrev pub Shows : Bool → Option (List ℕ) → Option (List ℕ) → Type 0
Shows is_shown before after =
    (shown : List ℕ) × (is_shown ≡ false → shown ≡ []) × Appends before after shown

-- answers are all that is written on an output, a line for each, and all on the errors is shown
abbrev pub WritesAnswers : Bool → Streams → Streams → List Answer → Type 0
WritesAnswers is_shown before after answers =
    Appends before.output after.output (flat_map answer_line answers)
    × Shows is_shown before.errors after.errors

-- the same, and the errors end with a line
pub record EndsBy (is_shown : Bool) (r : Ran) (answers : List Answer) (line : List ℕ)
    : Type 0 where
  pub between : Streams
  pub answered : WritesAnswers is_shown r.before between answers
  pub output : r.after.output ≡ between.output
  pub errors : Appends between.errors r.after.errors line

-- a run that answers each line by a relation: every line is answered, and a count is told; or the
-- rest of the input cannot be read; or one answer is told for all, where it needs no document
pub data AnswersLines (P : List ℕ → Answer → Type 0) (is_shown : Bool) (r : Ran) : Type 0 where
  all_answered : (answers : List Answer) (count : Count)
      → IfSome r.input (AnswersAll P answers) → Counts count answers
      → EndsBy is_shown r answers (count_text count ++ 10 ∷ []) → r.status ≡ worst answers
      → AnswersLines P is_shown r
  no_more : (answers : List Answer) (a : Answer)
      → IfSome r.input (AnswersFirst P answers) → (a.status ≡ Misused) ⊎ (a ≡ refused)
      → EndsBy is_shown r answers (a.text ++ 10 ∷ []) → r.status ≡ a.status
      → AnswersLines P is_shown r
  for_all : (a : Answer)
      → ((document : List ℕ) → P document a) ⊎ (a ≡ refused) → EndsWith r a
      → AnswersLines P is_shown r
