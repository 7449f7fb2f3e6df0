-- What is answered.
use Rattle.std.specs.Prelude.{ℕ, List, codes, string_bytes}
use Rattle.facet_solver_tool.specs.declared.answer.Answer as answer
use Rattle.facet_solver_tool.specs.declared.status.Status.{Status}
use Rattle.facet_solver_tool.specs.declared.status.Status.TheVariants.{OutOfMemory}

-- an answer: how the run ends, and the text without the line feed at its end
pub record Answer : Type 0 where
  pub status : Status
  pub text : List ℕ

-- what is seen of one
abbrev pub answer_view : answer.Answer → Answer
answer_view a = record { status = a.status; text = string_bytes a.text }

-- the answer of a status and a text
abbrev pub says : Status → List ℕ → Answer
says status text = record { status = status; text = text }

-- the answer where memory was refused
abbrev pub refused : Answer
refused = says OutOfMemory (codes "out of memory")
