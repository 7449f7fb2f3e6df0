use Rattle.facet_solver_reader.specs.Reading.{AreSound}
use Rattle.facet_solver_reader.proofs.why.named.into_content.Given as goal

-- the counts that are known are right
abbrev pub invariant-loop-variant : goal.invariant-loop-variant
invariant-loop-variant l = AreSound l.tables l.nodes l.memo.entries.items
