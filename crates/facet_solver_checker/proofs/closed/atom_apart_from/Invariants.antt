use Rattle.std.proofs.Common.{All, take}
use Rattle.facet_solver_checker.specs.Apartness.{AtomsApart}
use Rattle.facet_solver_checker.proofs.closed.atom_apart_from.Given as goal

-- the atoms before this one are apart from it
abbrev pub invariant-loop-atom : goal.invariant-loop-atom
invariant-loop-atom l = All (AtomsApart l.plan l.apart l.first) (take l.atom-index l.second)
