use Rattle.std.proofs.Common.{◌≡◌, ℕ, ◌+◌, ◌<◌, ◌≤◌, get_or}
use Rattle.std.specs.Prelude.{bit_and}
use Rattle.facet_solver.proofs.set.bits.keep_words.Given as goal

abbrev pub invariant-loop-k : goal.invariant-loop-k
invariant-loop-k l = record {
  done : (j : ℕ) → j < l.k → get_or l.words j 0 ≡ bit_and (get_or l.fn.words j 0) (get_or l.others j 0);
  words : l.steps.words ≡ l.fn.steps.words + l.k;
  searches : l.steps.searches ≡ l.fn.steps.searches;
  visits : l.steps.visits ≡ l.fn.steps.visits;
  rest : (j : ℕ) → l.k ≤ j → get_or l.words j 0 ≡ get_or l.fn.words j 0;
}
