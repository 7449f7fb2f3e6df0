use Rattle.std.proofs.Common.{All, take}
use Rattle.facet_solver_checker.specs.Apartness.{AllApart}
use Rattle.facet_solver_checker.proofs.closed.all_apart.Given as goal

-- the atoms before this one are apart from all others
abbrev pub invariant-loop-atom : goal.invariant-loop-atom
invariant-loop-atom l = AllApart l.plan l.apart (take l.atom-index l.first) l.second
