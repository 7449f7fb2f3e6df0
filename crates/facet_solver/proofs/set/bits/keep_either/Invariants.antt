use Rattle.std.proofs.Common.{◌≡◌, ℕ, ◌<◌, ◌≤◌, get_or}
use Rattle.std.specs.Prelude.{bit_and, bit_or}
use Rattle.facet_solver.proofs.set.bits.keep_either.Given as goal

abbrev pub invariant-loop-k : goal.invariant-loop-k
invariant-loop-k l = record {
  done : (j : ℕ) → j < l.k → get_or l.words j 0 ≡ bit_and (get_or l.fn.words j 0) (bit_or (get_or l.one j 0) (get_or l.other j 0));
  rest : (j : ℕ) → l.k ≤ j → get_or l.words j 0 ≡ get_or l.fn.words j 0;
}
