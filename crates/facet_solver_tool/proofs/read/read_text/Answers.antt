use Rattle.std.proofs.Common.{Err, ap}
use Rattle.std.proofs.lemmas.Result.{IfOk-weaker}
use Rattle.facet_solver_reader.specs.Documents.{view}
use Rattle.facet_solver_tool.specs.Answer.{answer_view}
use Rattle.facet_solver_tool.specs.ReadAnswers.{is_json}
use Rattle.facet_solver_tool.proofs.Faults.{answers_no_json}
use Rattle.facet_solver_tool.proofs.read.read_text.Goals as goal

pub returns-in-Ok : goal.returns-in-Ok
returns-in-Ok c =
    IfOk-weaker c.read_document.result _ _ (λ a ends. is_json (view c.in-Ok.document) c.in-Ok.ensures.ok ends) c.read_document.ensures

pub returns-in-Err : goal.returns-in-Err
returns-in-Err c =
    IfOk-weaker c.no_json.result _ _
    (λ a said.
    answers_no_json c.args.reader.now c.args.text.now c.in-Err.error (answer_view a) said.0
    (λ line column reason is. c.in-Err.ensures.invalid line column reason (ap Err is)) c.in-Err.ensures.place said.1)
    c.no_json.ensures
