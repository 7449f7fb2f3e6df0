use Rattle.std.proofs.Common.{map, take}
use Rattle.facet_solver_reader.specs.PlanNumbers.{meaning_of}
use Rattle.facet_solver_reader.specs.Plans.{AreInPairs, IsPlannedTarget}
use Rattle.facet_solver_reader.specs.TargetKeys.{key_view}
use Rattle.facet_solver_reader.proofs.plan.targets.planned_targets.Given as goal

-- the targets before this one are planned
abbrev pub invariant-loop-target : goal.invariant-loop-target
invariant-loop-target l =
    AreInPairs (IsPlannedTarget (meaning_of l.tables l.numbers))
    (map key_view (take l.target-index l.target-items)) l.targets.items
