use Rattle.std.proofs.Common.{◌≡◌, ◌-◌, ◌≤◌, length, drop}
use Rattle.facet_solver_types.specs.Closings.{line_end}
use Rattle.facet_solver_types.proofs.tokens.closings.line_end.Given as goal

abbrev pub invariant-loop-at : goal.invariant-loop-at
invariant-loop-at l = (line_end l.at (drop l.at l.text) ≡ line_end l.from (drop l.from l.text)) × (l.from ≤ l.at) × (l.at ≤ length l.text)

abbrev pub decreases-loop-at : goal.decreases-loop-at
decreases-loop-at l = length l.text - l.at
