use Rattle.std.proofs.Common.{◌≡◌, inl, inr}
use Rattle.facet_solver_tool.specs.declared.status.Status.TheVariants.{Misused}
use Rattle.facet_solver_tool.specs.Streams.{told}
use Rattle.facet_solver_tool.proofs.Told.{told_is}
use Rattle.facet_solver_tool.proofs.run.answer_lines.Goals as goal

pub returns-in-Ok : goal.returns-in-Ok
returns-in-Ok g c =
    λ written. let said = c.answer.ensures written in inr (c.deref.result.now, said.0, said.1)

pub returns-in-Err : goal.returns-in-Err
returns-in-Err g c =
    λ written.
    inl (told c.unread.result, told_is (λ a. a.status ≡ Misused) c.unread.result c.unread.ensures, c.tell.ensures written)
