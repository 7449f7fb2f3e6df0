use Rattle.std.proofs.lemmas.Result.{on_ok_weaker}
use Rattle.serde_json.specs.View.{view}
use Rattle.facet_solver.specs.Names.{names_of}
use Rattle.facet_solver_program.proofs.Telling.{names_before_last, path_told}
use Rattle.facet_solver_program.proofs.tell.tell_path.Goals as goal

pub returns : goal.returns
returns c =
    let path = c.args.path.now in
    let above = c.in-Some.above.now in
    let key = c.in-Some.key.now in
    on_ok_weaker c.tell_shapes.result
    (path_told c.args.shapes.now (names_of path) (view c.args.value.now) c.args.solver.now _ (names_of above) key.now
    c.in_ok-is_known.is_known _ (names_before_last path above key c.in-Some.ensures.cases.0)
    c.in_ok-is_known.ensures c.if-not-is_known.false c.in_ok-probe_key.ensures.ok)
    c.tell_shapes.ensures
