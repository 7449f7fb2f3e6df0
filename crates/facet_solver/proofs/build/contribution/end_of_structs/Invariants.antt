use Rattle.std.proofs.Common.{◌≤◌}
use Rattle.facet_solver.proofs.build.contribution.end_of_structs.Given as goal

-- the end goes down from the root
abbrev pub invariant-loop-end : goal.invariant-loop-end
invariant-loop-end l = l.end ≤ l.fn.root

abbrev pub decreases-loop-end : goal.decreases-loop-end
decreases-loop-end l = l.end
