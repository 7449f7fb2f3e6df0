use Rattle.std.proofs.Common.{ℕ, ◌<◌}
use Rattle.facet_solver_reader.specs.Placing.{IsLeft}
use Rattle.facet_solver_reader.proofs.tables.order.Ordered.first_left.Given as goal

-- no list before this one is left
abbrev pub invariant-loop-number : goal.invariant-loop-number
invariant-loop-number l = (k : ℕ) → k < l.number → ¬ IsLeft l.every l.marks l.self k
