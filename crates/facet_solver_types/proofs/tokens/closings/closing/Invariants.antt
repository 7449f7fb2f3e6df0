use Rattle.std.proofs.Common.{◌≡◌, ◌+◌, ◌≤◌, length, drop, false}
use Rattle.facet_solver_types.specs.Closings.{closing}
use Rattle.facet_solver_types.proofs.tokens.closings.closing.Given as goal

abbrev pub invariant-loop-left : goal.invariant-loop-left
invariant-loop-left l =
    (closing l.quote l.passed l.at l.left ≡ closing l.quote false l.from (drop l.from l.text))
    × (l.at + length l.left ≡ length l.text) × (l.from ≤ l.at)

abbrev pub decreases-loop-left : goal.decreases-loop-left
decreases-loop-left l = length l.left
