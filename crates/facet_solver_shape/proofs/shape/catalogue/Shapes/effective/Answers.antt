use Rattle.std.proofs.Common.{Option, sym, ap, ◌∙◌}
use Rattle.facet_solver_shape.specs.declared.shape.Shape.{Shape}
use Rattle.facet_solver_shape.specs.EffectiveShapes.{effective, next_inside, go_on}
use Rattle.facet_solver_shape.proofs.Catalogues.{names_earlier}
use Rattle.facet_solver_shape.proofs.EffectiveShapes.{effective-step}
use Rattle.facet_solver_shape.proofs.shape.catalogue.Shapes.effective.Goals as goal

pub loop-shape-preserved : goal.loop-shape-preserved
loop-shape-preserved c =
    let shapes = c.args.self.now in
    let id = c.loop-shape.id in
    sym (effective-step shapes (names_earlier shapes c.in-Some.ensures.checked) id
    ∙ ap (λ (o : Option Shape). go_on (effective shapes) id (next_inside o)) (sym c.in-Some.ensures.entry)
    ∙ ap (go_on (effective shapes) id) (sym c.in-Some-or.ensures))
    ∙ c.loop-shape.invariant
