use Rattle.facet_solver_reader.specs.Reading.{AreSound}
use Rattle.facet_solver_reader.proofs.why.stop.stop_in_list.Given as goal

-- the counts that are known are right
abbrev pub invariant-loop-part : goal.invariant-loop-part
invariant-loop-part l = AreSound l.tables l.nodes l.memo.entries.items
