use Rattle.std.proofs.Common.{false, List, ℕ}
use Rattle.std.proofs.lemmas.Result.{IfOk-weaker}
use Rattle.facet_solver_types.specs.Places.{without_mark}
use Rattle.facet_solver_tool.specs.Answers.{AnswersText, has_types, no_types}
use Rattle.facet_solver_tool.specs.Lines.{for_all}
use Rattle.facet_solver_tool.specs.Questions.{lines_view}
use Rattle.facet_solver_tool.specs.Streams.{told}
use Rattle.facet_solver_tool.proofs.EachLine.{AnswersLines-weaker}
use Rattle.facet_solver_tool.proofs.Explained.{explained}
use Rattle.facet_solver_tool.proofs.Told.{told_is}
use Rattle.facet_solver_tool.proofs.lines.answer_text.Goals as goal

pub returns-in-Ok : goal.returns-in-Ok
returns-in-Ok g c =
    λ written.
    let said = c.answer_types.ensures written in
    (said.0, AnswersLines-weaker (λ line a answers. has_types c.in-Ok.types c.in-Ok.ensures answers) said.1)

pub returns-in-Err : goal.returns-in-Err
returns-in-Err g c =
    λ written.
    let q = lines_view c.args.question.now in
    let text = c.args.text.now in (
      false,
      for_all (told c.no_types.result)
          (told_is (λ a. (document : List ℕ) → AnswersText q text document a) c.no_types.result
          (IfOk-weaker c.no_types.result _ _
          (λ a said document.
          no_types c.in-Err.error (explained (without_mark text) q.root c.in-Err.error said.0 c.in-Err.ensures) said.1)
          c.no_types.ensures))
          (c.tell.ensures written),
    )
