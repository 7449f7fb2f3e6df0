use Rattle.std.proofs.Common.{◌≡◌, take}
use Rattle.facet_solver_checker.specs.PlanMembers.{targets_below}
use Rattle.facet_solver_checker.proofs.members.targets_of.Given as goal

-- those of the lists before this one
abbrev pub invariant-loop-number : goal.invariant-loop-number
invariant-loop-number l =
    l.targets.items ≡ targets_below l.lists l.name (take l.number-index l.below)
