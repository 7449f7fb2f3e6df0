use Rattle.std.specs.List.{All}
use Rattle.facet_solver_reader.specs.Nodes.{value_of}
use Rattle.facet_solver_reader.specs.Reading.{AreSound}
use Rattle.facet_solver_reader.specs.Tables.{rules_at}
use Rattle.facet_solver_reader.specs.Why.{IsMisfit}
use Rattle.facet_solver_reader.proofs.why.untagged.misfits_in.Given as goal

-- what is told so far is so
abbrev pub invariant-loop-alternative : goal.invariant-loop-alternative
invariant-loop-alternative l =
    record {
      sound : AreSound l.tables l.nodes l.memo.entries.items;
      each : All (IsMisfit (rules_at l.tables) (value_of l.nodes l.node)) l.misfits.items;
    }
