use Rattle.std.proofs.Common.{◌++◌, ◌∷◌, []}
use Rattle.facet_solver_reader.specs.Reading.{AreSound}
use Rattle.facet_solver_reader.specs.UnderWay.{AreKnownCounts, IsGoing}
use Rattle.facet_solver_reader.proofs.read.steps.steps_of.Given as goal

-- the steps so far, and the lists that are under way
abbrev pub invariant-parts : goal.invariant-parts
invariant-parts l =
    record {
      sound : AreSound l.tables l.nodes l.memo.entries.items;
      counts : AreKnownCounts l.tables l.nodes l.object l.way.counts;
      under_way :
          IsGoing l.tables l.nodes l.object (l.way.frames.items ++ l.frame ∷ [])
          l.way.steps.items;
    }
