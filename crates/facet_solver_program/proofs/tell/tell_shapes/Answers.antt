use Rattle.std.proofs.Common.{ap, ◌∙◌}
use Rattle.serde_json.specs.View.{view}
use Rattle.facet_solver.specs.Names.{names_of}
use Rattle.facet_solver.specs.solver.ShapeAtPath.{satisfy_at_path}
use Rattle.facet_solver_program.specs.Tell.{fits_some_not_all, fitting}
use Rattle.facet_solver_program.proofs.Telling.{shapes_told}
use Rattle.facet_solver_program.proofs.tell.tell_shapes.Goals as goal

pub returns : goal.returns
returns c =
    let cat = c.args.shapes.now in
    let path = names_of c.args.path.now in
    let d = view c.args.value.now in
    let solver = c.args.solver.now in
    shapes_told cat path d solver _ c.in_ok-ids.ids.items c.in_ok-fitting.fitting.items c.fits_some_not_all.result
    c.in_ok-ids.ensures
    (c.fits_some_not_all.ensures ∙ ap (fits_some_not_all cat d) c.deref.ensures.value)
    c.if-not-fits_some_not_all.false
    (c.in_ok-fitting.ensures ∙ ap (fitting cat d) c.deref-2.ensures.value)
    (c.satisfy_at_path.ensures.narrowed ∙ ap (λ fit. satisfy_at_path path fit solver) c.deref-3.ensures.value)
