use Rattle.std.proofs.Common.{IfOk, subst, sym}
use Rattle.facet_solver_tool.specs.Answer.{answer_view}
use Rattle.facet_solver_tool.specs.Answers.{IsAnswer}
use Rattle.facet_solver_tool.specs.Questions.{question_view}
use Rattle.facet_solver_tool.proofs.run.answer_read.Goals as goal

pub returns-in-Ok-clause-read : goal.returns-in-Ok-clause-read
returns-in-Ok-clause-read c =
    let q = question_view c.args.question.now in
    let types = c.args.types.now in
    subst (λ r. IfOk r (λ given. IfOk c.answer.result (λ a. IsAnswer q types given.items (answer_view a)))) (sym c.in-Ok.is)
    (subst (λ given. IfOk c.answer.result (λ a. IsAnswer q types given (answer_view a))) c.deref.ensures.value c.answer.ensures)
