-- What a run writes.
use Rattle.std.specs.Prelude.{◌≡◌, ◌++◌, ℕ, List, [], ◌∷◌, Option, Result, Ok, Err}
use Rattle.std.specs.Io.KnownBytes.{Appends}
use Rattle.std.specs.declared.alloc.AllocError.{AllocError}
use Rattle.facet_solver_tool.specs.declared.answer.Answer as answer
use Rattle.facet_solver_tool.specs.declared.status.Status.{Status}
use Rattle.facet_solver_tool.specs.declared.status.Status.TheVariants.{Answered, Ambiguous, MaybeAmbiguous, Outdated}
use Rattle.facet_solver_tool.specs.Answer.{Answer, answer_view, refused}

-- what an output and the errors hold, where they tell it
pub record Streams : Type 0 where
  pub output : Option (List ℕ)
  pub errors : Option (List ℕ)

-- the streams of what both hold
abbrev pub streams : Option (List ℕ) → Option (List ℕ) → Streams
streams output errors = record { output = output; errors = errors }

-- a line is all that is written to the output
abbrev pub WritesOutput : Streams → Streams → List ℕ → Type 0
WritesOutput before after line =
    Appends before.output after.output line × (after.errors ≡ before.errors)

-- a line is all that is written: to the output by an answer to what was asked, as by a check
-- whatever it finds, else to the errors
abbrev pub WritesLine : Status → Streams → Streams → List ℕ → Type 0
WritesLine Answered before after line = WritesOutput before after line
WritesLine Ambiguous before after line = WritesOutput before after line
WritesLine MaybeAmbiguous before after line = WritesOutput before after line
WritesLine Outdated before after line = WritesOutput before after line
WritesLine status before after line =
    Appends before.errors after.errors line × (after.output ≡ before.output)

-- an answer and a line feed are all that is written
abbrev pub Writes : Streams → Streams → Answer → Type 0
Writes before after a = WritesLine a.status before after (a.text ++ 10 ∷ [])

-- a run: what its input has left at first, what the streams hold before and after, and its status
pub record Ran : Type 0 where
  pub input : Option (List ℕ)
  pub before : Streams
  pub after : Streams
  pub status : Status

-- the run of these
abbrev pub ran : Option (List ℕ) → Streams → Streams → Status → Ran
ran input before after status =
    record { input = input; before = before; after = after; status = status }

-- an answer is all that a run writes, and tells how it ends
abbrev pub EndsWith : Ran → Answer → Type 0
EndsWith r a = (a.status ≡ r.status) × Writes r.before r.after a

-- what is told for an answer that is made, or for which memory was refused
abbrev pub told : Result answer.Answer AllocError → Answer
told (Ok a) = answer_view a
told (Err e) = refused
