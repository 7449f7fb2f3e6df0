use Rattle.std.proofs.Common.{◌≡◌, ◌+◌, ◌≤◌, length, drop, false}
use Rattle.facet_solver_types.specs.Closings.{comment_end}
use Rattle.facet_solver_types.proofs.tokens.closings.comment_end.Given as goal

abbrev pub invariant-loop-left : goal.invariant-loop-left
invariant-loop-left l =
    (comment_end l.depth l.passed l.at l.left ≡ comment_end 0 false l.from (drop l.from l.text))
    × (l.at + length l.left ≡ length l.text) × (l.from ≤ l.at) × (l.depth ≤ l.at)

abbrev pub decreases-loop-left : goal.decreases-loop-left
decreases-loop-left l = length l.left
