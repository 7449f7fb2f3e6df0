use Rattle.std.proofs.Common.{length}
use Rattle.facet_solver.specs.solver.SeenNames.{IsSuffixOf, left}
use Rattle.facet_solver.proofs.solver.conditions.viable.Cursor.finds.Given as goal

-- the keys from the cursor on are the last of those at first
abbrev pub invariant-loop-self : goal.invariant-loop-self
invariant-loop-self l = IsSuffixOf (left l.self) (left l.fn.self)

abbrev pub decreases-loop-self : goal.decreases-loop-self
decreases-loop-self l = length (left l.self)
