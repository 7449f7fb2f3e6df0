use Rattle.std.proofs.Common.{ap, ◌∙◌}
use Rattle.facet_solver_shape.specs.Names.{names_of}
use Rattle.facet_solver.specs.build.Build.{Catalogue}
use Rattle.facet_solver.specs.solver.ShapeAtPath.{has_shape_at_path}
use Rattle.facet_solver.specs.solver.State.{State, retain}
use Rattle.facet_solver.proofs.solver.Solver.satisfy_at_path.Goals as goal

pub returns-clause-narrowed : goal.returns-clause-narrowed
returns-clause-narrowed c =
    c.retain.ensures
    ∙ ap (λ (cat : Catalogue). retain (has_shape_at_path cat (names_of c.args.path.now) c.args.shapes.now) c.args.self.now)
    (c.shapes-catalogue.ensures ∙ ap (λ (s : State). s.schema.build.catalogue) c.self.view_is)
