-- The reply to what was read of an input is one to the input.
use Rattle.std.proofs.Common.{◌≡◌, ◌⊎◌, ℕ, List, Option, Some, None, Result, Ok, Err, IfErr, IfOk, IfSome, ap, inl, inr, subst}
use Rattle.facet_solver_program.specs.declared.reply.Reply.{Reply}
use Rattle.facet_solver_program.specs.declared.reply.Reply.TheVariants.{OutOfMemory}
use Rattle.facet_solver_program.specs.declared.serve.InputError.{InputError}
use Rattle.facet_solver_program.specs.declared.serve.InputError.TheVariants as errors
use Rattle.facet_solver_program.specs.Answer.{IsAnswer}
use Rattle.facet_solver_program.specs.Reply.{status, text}
use Rattle.facet_solver_program.specs.Serve.{IsReply, reply_to_error}

-- the reply is to all that the input has left, where it tells that
pub is_reply : {B : Type 0} (items : B → List ℕ) (input : Option (List ℕ)) (read : Result B InputError) (r : Reply)
    → IfOk read (λ bytes. IfSome input (λ left. items bytes ≡ left))
    → IfOk read (λ bytes. IsAnswer (items bytes) (status r) (text r) ⊎ (r ≡ OutOfMemory))
    → IfErr read (λ error. r ≡ reply_to_error error)
    → IsReply input (status r) (text r)
is_reply items None (Ok bytes) r same answered error = inl tt
is_reply items (Some left) (Ok bytes) r same (inl answered) error =
    inl (subst (λ b. IsAnswer b (status r) (text r)) same answered)
is_reply items (Some left) (Ok bytes) r same (inr refused) error = inr (inr (ap status refused, ap text refused))
is_reply items input (Err errors.Unread) r same answered error = inr (inl (ap status error, ap text error))
is_reply items input (Err errors.OutOfMemory) r same answered error = inr (inr (ap status error, ap text error))
