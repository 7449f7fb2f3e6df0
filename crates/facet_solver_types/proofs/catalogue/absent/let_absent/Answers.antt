use Rattle.std.proofs.Common.{◌<◌, ◌≤◌, ◌∙◌, ap, arith, length, map, sym}
use Rattle.std.proofs.lemmas.List.{length-map}
use Rattle.facet_solver_types.specs.AbsentMembers.{let_absent}
use Rattle.facet_solver_types.specs.ShapeViews.{shape_view}
use Rattle.facet_solver_types.proofs.InPlace.{changed_all, changed_more}
use Rattle.facet_solver_types.proofs.catalogue.absent.let_absent.Goals as goal

pub loop-shape-preserved : goal.loop-shape-preserved
loop-shape-preserved c =
    let l = c.loop-shape in
    let i = l.shape-index in
    let before = c.args.shapes.now in
    let rule = let_absent c.args.absences.now in
    let there : i < length l.shapes = omega (arith, l.auto.shapes, c.loop-shape-test.true) in
    let within : i < length (map shape_view before) = omega (arith, length-map before shape_view, c.loop-shape-test.true) in
    changed_more shape_view rule (map shape_view before) l.shapes i c.shape-item.result c.let_absent_shape.new.shape
    within there l.invariant c.shape-item.is
    (c.let_absent_shape.ensures ∙ ap (λ x. rule (shape_view x)) (sym c.shape-item.is))

pub returns : goal.returns
returns c =
    let l = c.loop-shape in
    let before = c.args.shapes.now in
    let over : length (map shape_view before) ≤ l.shape-index =
    omega (arith, length-map before shape_view, c.loop-shape-test.false) in
    l.invariant ∙ changed_all (let_absent c.args.absences.now) (map shape_view before) l.shape-index over
