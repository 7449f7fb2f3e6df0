use Rattle.std.proofs.Common.{◌∙◌, ap, arith}
use Rattle.std.proofs.lemmas.Result.{on_ok_weaker}
use Rattle.serde_json.specs.View.{view}
use Rattle.facet_solver.specs.Names.{names_of}
use Rattle.facet_solver_program.specs.Tell.{tell_value}
use Rattle.facet_solver_program.proofs.Telling.{long_path}
use Rattle.facet_solver_program.proofs.tell.tell_member.Goals as goal

pub returns-in_default : goal.returns-in_default
returns-in_default c =
    let cat = c.args.shapes.now in
    let d = view c.args.member.now.value.now in
    let solver = c.args.solver.now in
    on_ok_weaker c.tell_path.result (λ told.
    told
    ∙ long_path cat c.as_slice.result.now d solver (omega arith)
    ∙ ap (λ path. tell_value cat (names_of path) d solver) c.as_slice.ensures.value)
    c.tell_path.ensures
