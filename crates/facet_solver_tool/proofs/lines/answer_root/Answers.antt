use Rattle.std.proofs.Common.{◌≡◌, false, List, ℕ, subst}
use Rattle.std.proofs.lemmas.Result.{IfOk-weaker}
use Rattle.facet_solver_reader.specs.Readers.{IsReaderOf}
use Rattle.facet_solver_tool.specs.Lines.{for_all}
use Rattle.facet_solver_tool.specs.ReadAnswers.{AnswersBytes}
use Rattle.facet_solver_tool.specs.RootAnswers.{AnswersRead, by_reader, no_reader, reader_of, root_at}
use Rattle.facet_solver_tool.specs.Streams.{told}
use Rattle.facet_solver_tool.proofs.EachLine.{AnswersLines-weaker}
use Rattle.facet_solver_tool.proofs.Faults.{fault_of_refusal}
use Rattle.facet_solver_tool.proofs.Told.{told_is}
use Rattle.facet_solver_tool.proofs.lines.answer_root.Goals as goal

pub returns-in-Ok : goal.returns-in-Ok
returns-in-Ok g c =
    λ written.
    let shapes = c.shapes-shapes.result.now in
    let question = c.args.question.now in
    let root = root_at question.types.now c.args.types.now c.args.id in
    let made : c.in-Ok.reader ≡ reader_of root shapes question.unknown =
    subst (λ u. IsReaderOf shapes c.args.id u c.in-Ok.reader) c.unknown_at-unknown.ensures c.in-Ok.ensures.made in
    let said = c.answer_lines.ensures written in (
      said.0,
      AnswersLines-weaker
          (λ line a answers. by_reader shapes c.shapes-shapes.ensures (subst (λ r. AnswersBytes r line a) made answers)) said.1,
    )

pub returns-in-Err : goal.returns-in-Err
returns-in-Err g c =
    λ written.
    let shapes = c.shapes-shapes.result.now in
    let question = c.args.question.now in
    let root = root_at question.types.now c.args.types.now c.args.id in (
      false,
      for_all (told c.refused.result)
          (told_is (λ a. (document : List ℕ) → AnswersRead root question.unknown document a) c.refused.result
          (IfOk-weaker c.refused.result _ _
          (λ a said document. no_reader shapes c.shapes-shapes.ensures record {
            error = c.in-Err.error;
            fault = fault_of_refusal shapes c.args.id c.in-Err.error said.0 c.in-Err.ensures.refused;
            told = said.1;
          })
          c.refused.ensures))
          (c.tell.ensures written),
    )
