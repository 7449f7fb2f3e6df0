use Rattle.std.specs.List.{All}
use Rattle.facet_solver_reader.specs.Blaming.{IsTakenBranch}
use Rattle.facet_solver_reader.specs.Branches.{CanBePresent}
use Rattle.facet_solver_reader.specs.Reading.{object_view}
use Rattle.facet_solver_reader.specs.Tables.{rules_at}
use Rattle.facet_solver_reader.specs.Views.{selection_view}
use Rattle.facet_solver_reader.proofs.why.several.branches_of.Given as goal

-- the selection can be present, and the branches so far read the object
abbrev pub invariant-loop-branch : goal.invariant-loop-branch
invariant-loop-branch l =
    record {
      present :
          CanBePresent (rules_at l.tables) (object_view l.nodes l.tallied.object)
          (selection_view l.selection);
      each : All (IsTakenBranch l.tables l.nodes l.tallied.object) l.branches.items;
    }
