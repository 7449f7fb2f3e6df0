use Rattle.std.proofs.Common.{false, List, ℕ, subst}
use Rattle.std.proofs.lemmas.Result.{IfOk-weaker}
use Rattle.facet_solver_tool.specs.Answers.{AnswersText, IsAnswer, is_utf8, no_utf8}
use Rattle.facet_solver_tool.specs.Lines.{for_all}
use Rattle.facet_solver_tool.specs.Questions.{lines_view}
use Rattle.facet_solver_tool.specs.Streams.{told}
use Rattle.facet_solver_tool.proofs.EachLine.{AnswersLines-weaker}
use Rattle.facet_solver_tool.proofs.Told.{told_is}
use Rattle.facet_solver_tool.proofs.lines.answer.Goals as goal

pub returns-in-Ok : goal.returns-in-Ok
returns-in-Ok g c =
    λ written.
    let read = c.in-Ok.ensures.cases in
    let said = c.answer_text.ensures written in (
      said.0,
      AnswersLines-weaker
          (λ line a answers. is_utf8 read.1 (subst (λ t. AnswersText (lines_view c.args.question.now) t line a) read.0 answers)) said.1,
    )

pub returns-in-Err : goal.returns-in-Err
returns-in-Err g c =
    λ written.
    let q = lines_view c.args.question.now in (
      false,
      for_all (told c.answer-answer.result)
          (told_is (λ a. (document : List ℕ) → IsAnswer q c.args.types.now document a) c.answer-answer.result
          (IfOk-weaker c.answer-answer.result _ _ (λ a said document. no_utf8 c.in-Err.ensures.cases.0 said) c.answer-answer.ensures))
          (c.tell.ensures written),
    )
