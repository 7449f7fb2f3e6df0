use Rattle.facet_solver_reader.specs.Reading.{AreSound}
use Rattle.facet_solver_reader.proofs.why.untagged.several_in_one.Given as goal

-- the counts that are known are right
abbrev pub invariant-loop-alternative : goal.invariant-loop-alternative
invariant-loop-alternative l = AreSound l.tables l.nodes l.memo.entries.items
