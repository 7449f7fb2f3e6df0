use Rattle.std.proofs.Common.{Err, ap, refl, subst, sym}
use Rattle.std.proofs.lemmas.Result.{IfOk-weaker}
use Rattle.facet_solver_program.specs.Answer.{IsEndOfInput, bad_input}
use Rattle.facet_solver_program.proofs.answer.answer_value.Goals as goal

pub returns-in-Ok : goal.returns-in-Ok
returns-in-Ok c =
    IfOk-weaker c.answer_input.result _ _
    (λ a said. (said.0, subst (λ o. IsEndOfInput o said.0) (sym c.in-Ok.ensures.ok) said.1, said.2))
    c.answer_input.ensures

pub returns-in-Err : goal.returns-in-Err
returns-in-Err c =
    IfOk-weaker c.no_input.result _ _
    (λ a said. (bad_input, subst (λ o. IsEndOfInput o bad_input) (sym (c.in-Err.ensures.bad (ap Err said.0))) refl, said.1))
    c.no_input.ensures.bad
