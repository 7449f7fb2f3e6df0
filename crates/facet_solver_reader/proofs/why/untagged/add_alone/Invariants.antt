use Rattle.std.specs.List.{All}
use Rattle.facet_solver_reader.specs.Nodes.{value_of}
use Rattle.facet_solver_reader.specs.Reading.{AreSound}
use Rattle.facet_solver_reader.specs.Tables.{rules_at}
use Rattle.facet_solver_reader.specs.Why.{IsReadBy}
use Rattle.facet_solver_reader.proofs.why.untagged.add_alone.Given as goal

-- the variants so far read the value
abbrev pub invariant-loop-alternative : goal.invariant-loop-alternative
invariant-loop-alternative l =
    record {
      sound : AreSound l.tables l.nodes l.memo.entries.items;
      each : All (IsReadBy (rules_at l.tables) (value_of l.nodes l.node)) l.variants.items;
    }
