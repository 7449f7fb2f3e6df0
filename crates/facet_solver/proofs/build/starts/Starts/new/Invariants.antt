use Rattle.facet_solver.specs.build.Build.{build_of}
use Rattle.facet_solver.proofs.Starts.{AreFirstTables}
use Rattle.facet_solver.proofs.build.starts.Starts.new.Given as goal

-- the entries of the shapes so far
abbrev pub invariant-loop-index : goal.invariant-loop-index
invariant-loop-index l = AreFirstTables (build_of l.build) l.root l.index l.by_index.items
