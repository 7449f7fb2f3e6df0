use Rattle.std.proofs.Common.{◌≡◌, ℕ, ◌+◌, ◌<◌, ◌≤◌, length}
use Rattle.facet_solver.specs.set.SharedBits.{common_word}
use Rattle.facet_solver.proofs.set.bits.next_shared.Given as goal

abbrev pub invariant-loop-place : goal.invariant-loop-place
invariant-loop-place l = record {
  skipped : (k : ℕ) → l.from ≤ k → k < l.place → common_word l.words l.others k ≡ 0;
  within : l.place ≤ length l.words;
  words : l.steps.words + l.from ≡ l.fn.steps.words + l.place;
  searches : l.steps.searches ≡ l.fn.steps.searches;
  visits : l.steps.visits ≡ l.fn.steps.visits;
}
