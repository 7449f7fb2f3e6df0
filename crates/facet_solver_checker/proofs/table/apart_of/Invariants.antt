use Rattle.std.proofs.Common.{◌≡◌}
use Rattle.facet_solver_checker.proofs.table.apart_of.Given as goal

-- the targets of the table are those of the plan
abbrev pub invariant-loop : goal.invariant-loop
invariant-loop l = l.apart.targets.now ≡ l.plan.targets.items
