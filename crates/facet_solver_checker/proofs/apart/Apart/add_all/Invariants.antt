use Rattle.std.proofs.Common.{◌≡◌}
use Rattle.facet_solver_checker.proofs.apart.Apart.add_all.Given as goal

-- the targets stay
abbrev pub invariant-loop-pair : goal.invariant-loop-pair
invariant-loop-pair l = l.self.targets ≡ l.initial.self.targets
