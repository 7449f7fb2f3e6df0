use Rattle.std.proofs.lemmas.Result.{IfOk-weaker}
use Rattle.serde_json.specs.View.{members_view}
use Rattle.facet_solver.specs.build.Count.{count_of_root}
use Rattle.facet_solver_program.specs.Answer.{build, duplicate_field}
use Rattle.facet_solver_program.proofs.Endings.{end_of_root, is_choice_duplicate, not_too_many}
use Rattle.facet_solver_program.proofs.answer.answer_root.Goals as goal

pub returns-in-Ok : goal.returns-in-Ok
returns-in-Ok c =
    let b = build c.args.shapes.now c.args.builder in
    let few = not_too_many (count_of_root b c.args.root) _ c.in_ok-has_too_many.ensures c.if-branch.false in
    IfOk-weaker c.answer_document.result _ _
    (λ a said. (
      said.0,
      end_of_root b c.args.root (members_view c.args.document.now.entries) c.in-Ok.schema said.0 few c.in-Ok.ensures.built said.1,
      said.2,
    ))
    c.answer_document.ensures

pub returns-in-Err : goal.returns-in-Err
returns-in-Err c =
    let b = build c.args.shapes.now c.args.builder in
    let few = not_too_many (count_of_root b c.args.root) _ c.in_ok-has_too_many.ensures c.if-branch.false in
    IfOk-weaker c.no_schema.result _ _
    (λ a said. (
      duplicate_field said.0,
      (few, is_choice_duplicate b c.args.root c.in-Err.error said.0 said.1 c.in-Err.ensures.refused),
      said.2,
    ))
    c.no_schema.ensures
