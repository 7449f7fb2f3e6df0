use Rattle.std.proofs.Common.{Err, ap, refl, subst, sym}
use Rattle.std.proofs.lemmas.Result.{IfOk-weaker}
use Rattle.facet_solver_program.specs.Answer.{IsEndOfInput, bad_input}
use Rattle.facet_solver_program.specs.Input.{decode}
use Rattle.facet_solver_program.specs.Members.{given}
use Rattle.facet_solver_program.proofs.answer.answer.Goals as goal

pub returns-in-Ok : goal.returns-in-Ok
returns-in-Ok c =
    let ok = c.in-Ok.ensures.ok in
    IfOk-weaker c.answer_value.result _ _
    (λ a said. record {
      ending = said.0;
      is = (ok.0, ok.1, subst (λ w. IsEndOfInput (given w decode) said.0) (sym ok.2) said.1);
      said = said.2;
    })
    c.answer_value.ensures

pub returns-in-Err : goal.returns-in-Err
returns-in-Err c =
    IfOk-weaker c.no_input.result _ _
    (λ a said.
    let bad = c.in-Err.ensures.bad (ap Err said.0) in
    record {
      ending = bad_input;
      is = (bad.0, bad.1, subst (λ w. IsEndOfInput (given w decode) bad_input) (sym bad.2) refl);
      said = said.1;
    })
    c.no_input.ensures.bad
