use Rattle.std.proofs.Common.{◌≡◌, subst}
use Rattle.std.proofs.lemmas.Result.{IfOk-weaker}
use Rattle.facet_solver_reader.specs.Readers.{IsReaderOf}
use Rattle.facet_solver_tool.specs.Answer.{answer_view}
use Rattle.facet_solver_tool.specs.ReadAnswers.{AnswersBytes}
use Rattle.facet_solver_tool.specs.RootAnswers.{by_reader, no_reader, reader_of, root_at}
use Rattle.facet_solver_tool.proofs.Faults.{fault_of_refusal}
use Rattle.facet_solver_tool.proofs.read.answer.Goals as goal

pub returns-in-Ok : goal.returns-in-Ok
returns-in-Ok c =
    let shapes = c.shapes-shapes.result.now in
    let root = root_at c.args.path.now c.args.types.now c.args.id in
    let made : c.in-Ok.reader ≡ reader_of root shapes c.args.manner.unknown =
    subst (λ u. IsReaderOf shapes c.args.id u c.in-Ok.reader) c.unknown_at-unknown.ensures c.in-Ok.ensures.made in
    IfOk-weaker c.read_bytes.result _ _
    (λ a said. by_reader shapes c.shapes-shapes.ensures (subst (λ r. AnswersBytes r c.args.document.now (answer_view a)) made said))
    c.read_bytes.ensures

pub returns-in-Err : goal.returns-in-Err
returns-in-Err c =
    let shapes = c.shapes-shapes.result.now in
    IfOk-weaker c.refused.result _ _
    (λ a said. no_reader shapes c.shapes-shapes.ensures record {
      error = c.in-Err.error;
      fault = fault_of_refusal shapes c.args.id c.in-Err.error said.0 c.in-Err.ensures.refused;
      told = said.1;
    })
    c.refused.ensures
