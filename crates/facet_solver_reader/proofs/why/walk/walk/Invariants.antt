use Rattle.std.proofs.Common.{◌<◌}
use Rattle.facet_solver_reader.specs.Nodes.{count}
use Rattle.facet_solver_reader.specs.Reading.{AreSound, IsCount}
use Rattle.facet_solver_reader.specs.Tables.{IsServed}
use Rattle.facet_solver_reader.specs.Views.{target_view}
use Rattle.facet_solver_reader.proofs.why.walk.walk.Given as goal

-- a value has the count as the target
abbrev pub invariant-loop : goal.invariant-loop
invariant-loop l =
    record {
      sound : AreSound l.tables l.nodes l.memo.entries.items;
      inside : l.node < count l.nodes;
      served : IsServed l.tables (target_view l.target);
      counted : IsCount l.tables l.nodes l.node (target_view l.target) l.blame;
    }
