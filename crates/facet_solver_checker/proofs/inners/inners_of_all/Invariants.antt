use Rattle.std.proofs.Common.{◌≡◌, take}
use Rattle.facet_solver_checker.specs.Inners.{all_inners}
use Rattle.facet_solver_checker.proofs.inners.inners_of_all.Given as goal

-- those of the lists before this one
abbrev pub invariant-loop-number : goal.invariant-loop-number
invariant-loop-number l = l.inners.items ≡ all_inners l.lists (take l.number-index l.numbers)
