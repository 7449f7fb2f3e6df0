use Rattle.std.proofs.lemmas.Result.{IfOk-weaker}
use Rattle.serde_json.specs.View.{members_view}
use Rattle.facet_solver.specs.error.ErrorView.{error_view}
use Rattle.facet_solver.specs.schema.ResolutionHandle.{index_of, resolution_of}
use Rattle.facet_solver_program.specs.Answer.{reported, resolved}
use Rattle.facet_solver_program.proofs.Endings.{end_of_document, is_report}
use Rattle.facet_solver_program.proofs.answer.answer_document.Goals as goal

pub returns-in-Ok : goal.returns-in-Ok
returns-in-Ok c =
    let document = members_view c.args.document.now.entries in
    let ending = resolved (index_of c.in-Ok.handle) (resolution_of c.in-Ok.handle) in
    let ends = end_of_document c.args.schema.now document c.shapes.result.now c.in_ok-solver.solver c.tell.new.solver ending
    c.in_ok-solver.ensures.start c.shapes.ensures c.in_ok-tell.ensures (c.in-Ok.ensures.index, c.in-Ok.ensures.handle) in
    IfOk-weaker c.resolved.result _ _ (λ a said. (ending, ends, said)) c.resolved.ensures

pub returns-in-Err : goal.returns-in-Err
returns-in-Err c =
    let document = members_view c.args.document.now.entries in
    let ending = reported (error_view c.in-Err.error) in
    let ends = end_of_document c.args.schema.now document c.shapes.result.now c.in_ok-solver.solver c.tell.new.solver ending
    c.in_ok-solver.ensures.start c.shapes.ensures c.in_ok-tell.ensures in
    IfOk-weaker c.unresolved.result _ _
    (λ a said. (ending, ends (is_report c.tell.new.solver c.in-Err.error said.0 c.in-Err.ensures.refused), said.1))
    c.unresolved.ensures
