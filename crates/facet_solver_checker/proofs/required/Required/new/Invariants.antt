use Rattle.std.proofs.Common.{◌≡◌, length}
use Rattle.facet_solver_reader.specs.Plans.{Meaning}
use Rattle.facet_solver_checker.specs.PlanMembers.{AreListsOf}
use Rattle.facet_solver_checker.specs.Requires.{AreRequired}
use Rattle.facet_solver_checker.proofs.required.Required.new.Given as goal

-- the lists so far have the names that they require
abbrev pub invariant-loop-list : goal.invariant-loop-list
invariant-loop-list l = record {
  count : length l.names.items ≡ l.list-index;
  required : (m : Meaning) → AreListsOf m l.plan → AreRequired m l.names.items;
}
