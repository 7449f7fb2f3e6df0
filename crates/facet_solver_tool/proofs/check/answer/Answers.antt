use Rattle.std.proofs.Common.{subst}
use Rattle.std.proofs.lemmas.Result.{IfOk-weaker}
use Rattle.facet_solver_tool.specs.Checks.{IsReportOf, read_by}
use Rattle.facet_solver_tool.specs.RootAnswers.{is_checked, is_refused}
use Rattle.facet_solver_tool.proofs.Documents.{says_of_documents}
use Rattle.facet_solver_tool.proofs.Faults.{fault_of_refusal}
use Rattle.facet_solver_tool.proofs.check.answer.Goals as goal

pub returns-in-Ok : goal.returns-in-Ok
returns-in-Ok c =
    let shapes = c.shapes-shapes.result.now in
    let report = c.in-Ok.reports.asked in
    let of_reader = subst (λ u. IsReportOf (read_by shapes c.args.id u) report) c.unknown_at-unknown.ensures c.in-Ok.ensures.made in
    IfOk-weaker c.answer_reports.result _ _
    (λ a said. is_checked shapes c.shapes-shapes.ensures report of_reader said.0
    (says_of_documents _ report c.args.given.now a.status of_reader said.0) said.1)
    c.answer_reports.ensures

pub returns-in-Err : goal.returns-in-Err
returns-in-Err c =
    let shapes = c.shapes-shapes.result.now in
    IfOk-weaker c.refused.result _ _
    (λ a said. is_refused shapes c.shapes-shapes.ensures record {
      error = c.in-Err.error;
      fault = fault_of_refusal shapes c.args.id c.in-Err.error said.0 c.in-Err.ensures.refused;
      told = said.1;
    })
    c.refused.ensures
