use Rattle.std.proofs.Common.{◌≡◌, ◌+◌, ◌≤◌, length, drop}
use Rattle.facet_solver_types.specs.Closings.{raw_closing}
use Rattle.facet_solver_types.proofs.tokens.closings.raw_closing.Given as goal

abbrev pub invariant-loop-left : goal.invariant-loop-left
invariant-loop-left l =
    (raw_closing l.count l.at l.left ≡ raw_closing l.count l.from (drop l.from l.text))
    × (l.at + length l.left ≡ length l.text) × (l.from ≤ l.at)

abbrev pub decreases-loop-left : goal.decreases-loop-left
decreases-loop-left l = length l.left
