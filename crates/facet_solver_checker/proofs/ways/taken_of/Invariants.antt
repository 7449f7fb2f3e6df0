use Rattle.std.proofs.Common.{◌≡◌, take}
use Rattle.facet_solver_checker.specs.Ways.{taken_below}
use Rattle.facet_solver_checker.proofs.ways.taken_of.Given as goal

-- those of the lists before this one
abbrev pub invariant-loop-number : goal.invariant-loop-number
invariant-loop-number l =
    l.targets.items ≡ taken_below l.plan.shapes.now l.plan.lists.items l.name
    (take l.number-index l.left)
