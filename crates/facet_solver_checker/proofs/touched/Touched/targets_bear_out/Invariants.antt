use Rattle.std.proofs.Common.{All, take}
use Rattle.facet_solver_reader.specs.declared.plan.PlannedTarget.{PlannedTarget}
use Rattle.facet_solver_checker.specs.Touched.{BearsOutEnd}
use Rattle.facet_solver_checker.proofs.touched.Touched.targets_bear_out.Given as goal

-- those before this one bear out
abbrev pub invariant-loop-target : goal.invariant-loop-target
invariant-loop-target l =
    All (λ (t : PlannedTarget). BearsOutEnd l.self.flags.items t.end)
    (take l.target-index l.targets)
