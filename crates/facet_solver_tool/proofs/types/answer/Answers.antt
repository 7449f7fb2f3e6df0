use Rattle.std.proofs.Common.{subst}
use Rattle.std.proofs.lemmas.Result.{IfOk-weaker}
use Rattle.facet_solver_tool.specs.Answer.{answer_view}
use Rattle.facet_solver_tool.specs.Answers.{AnswersText, is_utf8, no_utf8}
use Rattle.facet_solver_tool.specs.Questions.{question_view}
use Rattle.facet_solver_tool.proofs.types.answer.Goals as goal

pub returns-in-Ok : goal.returns-in-Ok
returns-in-Ok c =
    let read = c.in-Ok.ensures.cases in
    IfOk-weaker c.answer_text.result _ _
    (λ a said.
    is_utf8 read.1 (subst (λ t. AnswersText (question_view c.args.question.now) t c.args.given.now (answer_view a)) read.0 said))
    c.answer_text.ensures

pub returns-in-Err : goal.returns-in-Err
returns-in-Err c = IfOk-weaker c.answer.result _ _ (λ a said. no_utf8 c.in-Err.ensures.cases.0 said) c.answer.ensures
