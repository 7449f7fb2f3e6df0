use Rattle.facet_solver_reader.specs.Reading.{AreSound}
use Rattle.facet_solver_reader.proofs.why.object.none_in_lists.Given as goal

-- the counts that are known are right
abbrev pub invariant-loop : goal.invariant-loop
invariant-loop l = AreSound l.tables l.nodes l.memo.entries.items
