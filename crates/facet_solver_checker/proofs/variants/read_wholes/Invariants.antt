use Rattle.std.proofs.Common.{All, take}
use Rattle.facet_solver_checker.specs.VariantsApart.{IsWholeAtom}
use Rattle.facet_solver_checker.proofs.variants.read_wholes.Given as goal

-- the atoms before this one read whole numbers of the range alone
abbrev pub invariant-loop-atom : goal.invariant-loop-atom
invariant-loop-atom l = All (IsWholeAtom l.plan l.range) (take l.atom-index l.atoms)
