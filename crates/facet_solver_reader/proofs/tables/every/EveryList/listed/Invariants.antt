use Rattle.facet_solver_reader.proofs.Added.{AreAddedUpto}
use Rattle.facet_solver_reader.proofs.tables.every.EveryList.listed.Given as goal

-- the lists of the shapes so far are added
abbrev pub invariant-loop-index : goal.invariant-loop-index
invariant-loop-index l = AreAddedUpto l.types l.every l.index
