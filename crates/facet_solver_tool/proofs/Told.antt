-- What is told of answers that are made.
use Rattle.std.proofs.Common.{◌≡◌, ◌⊎◌, IfOk, Result, Ok, Err, inl, inr, refl}
use Rattle.std.specs.declared.alloc.AllocError.{AllocError}
use Rattle.facet_solver_tool.specs.declared.answer.Answer as answer
use Rattle.facet_solver_tool.specs.Answer.{Answer, answer_view, refused}
use Rattle.facet_solver_tool.specs.Streams.{told}

-- what is told is the answer that is made, or that memory was refused for it
pub told_is : (P : Answer → Type 0) (made : Result answer.Answer AllocError)
    → IfOk made (λ a. P (answer_view a)) → P (told made) ⊎ (told made ≡ refused)
told_is P (Ok a) said = inl said
told_is P (Err e) said = inr refl
