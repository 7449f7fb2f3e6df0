use Rattle.std.proofs.Common.{◌≡◌, replicate, None}
use Rattle.facet_solver_reader.proofs.tables.reached.no_ends.Given as goal

-- none so far
abbrev pub invariant-loop : goal.invariant-loop
invariant-loop l = l.ends.items ≡ replicate l.counter None
