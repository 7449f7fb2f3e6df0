use Rattle.std.proofs.Common.{◌≡◌, ℕ, ◌*◌, ◌<◌, ◌≤◌, ◌&&◌, get_or}
use Rattle.facet_solver.specs.set.Words.{has_bit}
use Rattle.facet_solver.proofs.set.bits.retain_bits.Given as goal

abbrev pub invariant-loop-k : goal.invariant-loop-k
invariant-loop-k g l = record {
  done : (i : ℕ) → i < l.k * 64 → has_bit l.words i ≡ (has_bit l.fn.words i && g.C.Condition.holds l.condition i);
  rest : (j : ℕ) → l.k ≤ j → get_or l.words j 0 ≡ get_or l.fn.words j 0;
}
