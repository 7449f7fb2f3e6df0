use Rattle.std.proofs.Common.{◌≡◌, ◌*◌, filter, length}
use Rattle.facet_solver.specs.set.Words.{has_bit}
use Rattle.facet_solver.specs.set.IndexSet.{upto}
use Rattle.facet_solver.proofs.set.bits.count_bits.Given as goal

abbrev pub invariant-loop-word : goal.invariant-loop-word
invariant-loop-word l = l.total ≡ length (filter (has_bit l.words) (upto (l.word-index * 64)))
