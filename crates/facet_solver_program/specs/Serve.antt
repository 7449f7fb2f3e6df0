-- What the program writes, and the status that it ends with.
use Rattle.std.specs.Prelude.{◌≡◌, ◌⊎◌, ℕ, List, [], ◌∷◌, ◌++◌, Option, IfSome, codes}
use Rattle.std.specs.Io.KnownBytes.{Appends}
use Rattle.facet_solver_program.specs.declared.reply.Reply.{Reply}
use Rattle.facet_solver_program.specs.declared.reply.Reply.TheVariants.{BadInput, OutOfMemory}
use Rattle.facet_solver_program.specs.declared.serve.InputError.{InputError}
use Rattle.facet_solver_program.specs.declared.serve.InputError.TheVariants as errors
use Rattle.facet_solver_program.specs.Answer.{IsAnswer}

-- how a run over what an input has left ends: with an answer to its bytes, where it tells them; as
-- an input that could not be read; or as out of memory
abbrev pub IsReply : Option (List ℕ) → ℕ → List ℕ → Type 0
IsReply input status text =
    IfSome input (λ bytes. IsAnswer bytes status text)
    ⊎ ((status ≡ 4) × (text ≡ codes "bad input"))
    ⊎ ((status ≡ 5) × (text ≡ codes "out of memory"))

-- a text and a line feed are all that is written, where an output tells what it holds
abbrev pub WritesLine : Option (List ℕ) → Option (List ℕ) → List ℕ → Type 0
WritesLine before after text = Appends before after (text ++ 10 ∷ [])

-- the reply where an input has no bytes
abbrev pub reply_to_error : InputError → Reply
reply_to_error errors.Unread = BadInput
reply_to_error errors.OutOfMemory = OutOfMemory
