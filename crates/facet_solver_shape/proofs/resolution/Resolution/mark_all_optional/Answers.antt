use Rattle.facet_solver_shape.proofs.Resolved.{no_names}
use Rattle.facet_solver_shape.proofs.resolution.Resolution.mark_all_optional.Goals as goal

pub invariant_of-self : goal.invariant_of-self
invariant_of-self c = rw c.clear.ensures (no_names c.self.inside.fields c.mark_all_optional.new.self c.mark_all_optional.ensures)
