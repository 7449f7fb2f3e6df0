use Rattle.std.proofs.Common.{◌∙◌}
use Rattle.facet_solver_shape.specs.Paths.{path_eq}
use Rattle.facet_solver_shape.proofs.Paths.{path_agrees}
use Rattle.facet_solver_shape.proofs.resolution.path.FieldPathPartialEq.eq.Goals as goal

pub returns : goal.returns
returns c =
    c.eq.ensures
    ∙ path_agrees c.self.inside.segments.items c.other.inside.segments.items
    ∙ (λ i. path_eq (c.self.view_is i) (c.other.view_is i))
