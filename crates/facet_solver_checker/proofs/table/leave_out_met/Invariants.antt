use Rattle.std.proofs.Common.{◌≡◌}
use Rattle.facet_solver_checker.proofs.table.leave_out_met.Given as goal

-- the targets of the table stay
abbrev pub invariant-loop-pair : goal.invariant-loop-pair
invariant-loop-pair l = l.apart.targets ≡ l.initial.apart.targets
