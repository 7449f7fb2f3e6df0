use Rattle.std.proofs.lemmas.Result.{IfOk-weaker}
use Rattle.facet_solver_types.specs.Places.{without_mark}
use Rattle.facet_solver_tool.specs.Answers.{has_types, no_types}
use Rattle.facet_solver_tool.specs.Questions.{question_view}
use Rattle.facet_solver_tool.proofs.Explained.{explained}
use Rattle.facet_solver_tool.proofs.types.answer_text.Goals as goal

pub returns-in-Ok : goal.returns-in-Ok
returns-in-Ok c =
    IfOk-weaker c.answer_types.result _ _ (λ a said. has_types c.in-Ok.types c.in-Ok.ensures said) c.answer_types.ensures

pub returns-in-Err : goal.returns-in-Err
returns-in-Err c =
    IfOk-weaker c.no_types.result _ _
    (λ a said. no_types c.in-Err.error (explained (without_mark c.args.text.now) (question_view c.args.question.now).root c.in-Err.error said.0 c.in-Err.ensures) said.1)
    c.no_types.ensures
