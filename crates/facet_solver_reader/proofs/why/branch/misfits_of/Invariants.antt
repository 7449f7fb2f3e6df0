use Rattle.std.specs.List.{All}
use Rattle.facet_solver_reader.specs.Nodes.{value_of}
use Rattle.facet_solver_reader.specs.Reading.{AreSound}
use Rattle.facet_solver_reader.specs.Tables.{rules_at}
use Rattle.facet_solver_reader.specs.Why.{IsMisfit}
use Rattle.facet_solver_reader.proofs.why.branch.misfits_of.Given as goal

-- what is told so far is so
abbrev pub invariant-loop-branch : goal.invariant-loop-branch
invariant-loop-branch l =
    record {
      sound : AreSound l.tables l.nodes l.memo.entries.items;
      each :
          All (IsMisfit (rules_at l.tables) (value_of l.nodes l.asked.object.node))
          l.misfits.items;
    }
