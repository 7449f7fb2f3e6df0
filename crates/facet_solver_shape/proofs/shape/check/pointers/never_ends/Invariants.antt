use Rattle.facet_solver_shape.proofs.Pointers.{LeadsTo}
use Rattle.facet_solver_shape.proofs.shape.check.pointers.never_ends.Given as goal

-- the pointees followed so far lead here
abbrev pub invariant-loop : goal.invariant-loop
invariant-loop l = LeadsTo l.shapes l.counter l.index l.here
