use Rattle.facet_solver_reader.specs.declared.count.Count.TheVariants.{None}
use Rattle.facet_solver_reader.specs.Branches.{CanBePresent, ReadsBelow, ReadsPart}
use Rattle.facet_solver_reader.specs.Counted.{Counted}
use Rattle.facet_solver_reader.specs.Passed.{IsPassed}
use Rattle.facet_solver_reader.specs.Parts.{a_selection}
use Rattle.facet_solver_reader.specs.Reading.{object_view}
use Rattle.facet_solver_reader.specs.Readings.{ReadsValue}
use Rattle.facet_solver_reader.specs.Tables.{rules_at}
use Rattle.facet_solver_reader.specs.Views.{selection_view}
use Rattle.facet_solver_reader.proofs.count.chosen.chosen_branch.Given as goal

-- the selection can be present, and the object is read by none of the branches before this one
abbrev pub invariant-loop-k : goal.invariant-loop-k
invariant-loop-k l =
    record {
      passed :
          IsPassed (rules_at l.tables) (object_view l.nodes l.object) (selection_view l.selection)
          l.passed;
      present :
          CanBePresent (rules_at l.tables) (object_view l.nodes l.object)
          (selection_view l.selection);
      none :
          Counted
          (ReadsBelow
          (ReadsPart (rules_at l.tables) (ReadsValue (rules_at l.tables))
          (object_view l.nodes l.object) (a_selection (selection_view l.selection)))
          l.k)
          None;
    }
