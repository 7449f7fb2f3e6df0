use Rattle.std.proofs.Common.{◌≡◌, ◌++◌, take}
use Rattle.std.specs.List.{filter_map}
use Rattle.facet_solver_checker.specs.Ways.{target_taken}
use Rattle.facet_solver_checker.proofs.ways.push_taken.Given as goal

-- the targets of the parts before this one are added
abbrev pub invariant-loop-part : goal.invariant-loop-part
invariant-loop-part l =
    l.targets.items
    ≡ l.initial.targets.items
    ++ filter_map (target_taken l.plan.shapes.now l.name) (take l.part-index l.parts)
