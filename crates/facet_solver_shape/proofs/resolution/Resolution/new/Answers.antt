use Rattle.facet_solver_shape.proofs.Resolved.{nothing_required}
use Rattle.facet_solver_shape.proofs.resolution.Resolution.new.Goals as goal

pub invariant_of-result : goal.invariant_of-result
invariant_of-result c = rw (c.new.ensures, c.new-2.ensures) nothing_required
