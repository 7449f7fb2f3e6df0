use Rattle.std.proofs.Common.{◌<◌, ap, length, map, refl, rules}
use Rattle.std.proofs.lemmas.Result.{IfOk-weaker}
use Rattle.facet_solver_program.specs.Answer.{bad_catalogue}
use Rattle.facet_solver_program.specs.Input.{input_view}
use Rattle.facet_solver_program.specs.ShapeView.{shape_view}
use Rattle.facet_solver_program.proofs.Endings.{end_of_shapes}
use Rattle.facet_solver_program.proofs.answer.answer_input.Goals as goal

pub returns-in-Ok : goal.returns-in-Ok
returns-in-Ok c =
    let within : c.args.input.root < length c.in-Ok.shapes = search (rules, c.has.ensures.value, c.if-has.true) in
    IfOk-weaker c.answer_root.result _ _
    (λ a said. (
      said.0,
      (
        c.in-Ok.shapes,
        ap (map shape_view) c.in-Ok.ensures.same,
        end_of_shapes c.in-Ok.shapes (input_view c.args.input) said.0 c.has.ensures.checked within said.1,
      ),
      said.2,
    ))
    c.answer_root.ensures

pub returns-in-Err : goal.returns-in-Err
returns-in-Err c =
    (bad_catalogue c.in-Err.fault, (c.args.input.shapes.items, refl, c.in-Err.ensures.refused), (refl, refl))
