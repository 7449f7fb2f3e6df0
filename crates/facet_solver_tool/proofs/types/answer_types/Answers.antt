use Rattle.std.proofs.Common.{subst}
use Rattle.std.proofs.lemmas.Result.{IfOk-weaker}
use Rattle.facet_solver_tool.specs.Answer.{answer_view}
use Rattle.facet_solver_tool.specs.RootAnswers.{AnswersRoot, root_at}
use Rattle.facet_solver_tool.proofs.types.answer_types.Goals as goal

pub returns : goal.returns
returns c =
    let question = c.args.question.now in
    IfOk-weaker c.answer.result _ _
    (λ a said.
    subst (λ id. AnswersRoot (root_at question.types.now c.args.types.now id) question.task c.args.given.now (answer_view a)) c.root-id.ensures said)
    c.answer.ensures
