use Rattle.std.proofs.Common.{◌≡◌, ◌+◌, ◌-◌, ◌≤◌, length, drop}
use Rattle.facet_solver_types.specs.Closings.{hashes}
use Rattle.facet_solver_types.proofs.tokens.closings.hashes.Given as goal

abbrev pub invariant-loop-count : goal.invariant-loop-count
invariant-loop-count l = (l.count + hashes (drop l.count l.text) ≡ hashes l.text) × (l.count ≤ length l.text)

abbrev pub decreases-loop-count : goal.decreases-loop-count
decreases-loop-count l = length l.text - l.count
