use Rattle.facet_solver_reader.specs.Reading.{AreSound}
use Rattle.facet_solver_reader.proofs.why.naming.naming_of.Given as goal

-- the counts that are known are right
abbrev pub invariant-loop-part : goal.invariant-loop-part
invariant-loop-part l = AreSound l.tables l.nodes l.memo.entries.items
