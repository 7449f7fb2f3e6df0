use Rattle.facet_solver_reader.specs.Reading.{AreSound}
use Rattle.facet_solver_reader.proofs.read.known.keep_read.Given as goal

-- each count that is known is right
abbrev pub invariant-loop-index : goal.invariant-loop-index
invariant-loop-index l = AreSound l.tables l.nodes l.memo.entries.items
