use Rattle.facet_solver_reader.specs.Blaming.{AreTakenLists}
use Rattle.facet_solver_reader.specs.Reading.{AreSound}
use Rattle.facet_solver_reader.proofs.why.several.several_in_object.Given as goal

-- the counts that are known are right, and the lists that are marked so far are taken
abbrev pub invariant-loop-position : goal.invariant-loop-position
invariant-loop-position l =
    record {
      sound : AreSound l.tables l.nodes l.memo.entries.items;
      chosen : AreTakenLists l.tables l.nodes l.tallied.object l.chosen.items;
    }
