use Rattle.std.proofs.Common.{ℕ, ◌+◌, ◌<◌}
use Rattle.facet_solver_shape.proofs.RepeatedNames.{DifferAt}
use Rattle.facet_solver_shape.proofs.shape.check.stretch.repeats_neighbour.Given as goal

-- neighbours so far differ
abbrev pub invariant-loop-later : goal.invariant-loop-later
invariant-loop-later l = (k : ℕ) → k + 1 < l.later → DifferAt l.names k (k + 1)
