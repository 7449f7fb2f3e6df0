use Rattle.std.proofs.Common.{◌≡◌, ℕ, ◌*◌, ◌<◌, ◌≤◌, false}
use Rattle.facet_solver.specs.set.Words.{has_bit}
use Rattle.facet_solver.proofs.set.bits.next_bit.Given as goal

abbrev pub invariant-loop-k : goal.invariant-loop-k
invariant-loop-k l = (i : ℕ) → l.from ≤ i → i < l.k * 64 → has_bit l.words i ≡ false
