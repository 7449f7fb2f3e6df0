use Rattle.std.proofs.Common.{◌≡◌, ◌++◌, take}
use Rattle.std.specs.List.{filter_map}
use Rattle.facet_solver_checker.specs.PlanMembers.{target_named}
use Rattle.facet_solver_checker.proofs.members.push_targets.Given as goal

-- the targets of the parts before this one are added
abbrev pub invariant-loop-part : goal.invariant-loop-part
invariant-loop-part l =
    l.targets.items
    ≡ l.initial.targets.items ++ filter_map (target_named l.name) (take l.part-index l.parts)
