use Rattle.std.proofs.Common.{ℕ, List, ap, ◌∙◌}
use Rattle.std.proofs.lemmas.List.{map-id}
use Rattle.facet_solver.specs.solver.State.{has_shape_among, retain}
use Rattle.facet_solver.proofs.solver.Solver.satisfy_shapes.Goals as goal

pub returns-clause-narrowed : goal.returns-clause-narrowed
returns-clause-narrowed c =
    c.retain.ensures ∙ ap (λ (shapes : List ℕ). retain (has_shape_among shapes) c.args.self.now) (map-id c.args.shapes.now)
