use Rattle.std.proofs.Common.{inl}
use Rattle.std.proofs.lemmas.Result.{IfOk-weaker}
use Rattle.facet_solver_tool.specs.Runs.{AnswersRun}
use Rattle.facet_solver_tool.specs.Streams.{told}
use Rattle.facet_solver_tool.proofs.Told.{told_is}
use Rattle.facet_solver_tool.proofs.run.run.Goals as goal

pub returns-in-Err : goal.returns-in-Err
returns-in-Err g c =
    λ written.
    inl (
      told c.unread.result,
      told_is (λ a. AnswersRun (g.I.Read.remaining c.args.input.now) a) c.unread.result
          (IfOk-weaker c.unread.result _ _ (λ a status. inl status) c.unread.ensures),
      c.tell.ensures written,
    )
