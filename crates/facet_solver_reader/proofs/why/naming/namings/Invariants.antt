use Rattle.facet_solver_reader.specs.Reading.{AreSound}
use Rattle.facet_solver_reader.proofs.why.naming.namings.Given as goal

-- the counts that are known are right
abbrev pub invariant-loop-index : goal.invariant-loop-index
invariant-loop-index l = AreSound l.tables l.nodes l.memo.entries.items
