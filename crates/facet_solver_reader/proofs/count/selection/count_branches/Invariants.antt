use Rattle.facet_solver_reader.specs.Branches.{ReadsBelow, ReadsPart}
use Rattle.facet_solver_reader.specs.Counted.{Counted}
use Rattle.facet_solver_reader.specs.Passed.{IsPassed}
use Rattle.facet_solver_reader.specs.Parts.{a_selection}
use Rattle.facet_solver_reader.specs.Reading.{object_view}
use Rattle.facet_solver_reader.specs.Readings.{ReadsValue}
use Rattle.facet_solver_reader.specs.Tables.{rules_at}
use Rattle.facet_solver_reader.specs.Views.{selection_view}
use Rattle.facet_solver_reader.proofs.count.selection.count_branches.Given as goal

-- what is kept of the branches before this one is so, and the count is theirs
abbrev pub invariant-loop-branch : goal.invariant-loop-branch
invariant-loop-branch l =
    record {
      passed :
          IsPassed (rules_at l.tables) (object_view l.nodes l.object) (selection_view l.selection)
          l.passed;
      counted :
          Counted
          (ReadsBelow
          (ReadsPart (rules_at l.tables) (ReadsValue (rules_at l.tables))
          (object_view l.nodes l.object) (a_selection (selection_view l.selection)))
          l.branch-index)
          l.count;
    }
