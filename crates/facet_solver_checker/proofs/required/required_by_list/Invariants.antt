use Rattle.std.proofs.Common.{Bor}
use Rattle.facet_solver_shape.specs.Names.{Name}
use Rattle.facet_solver_reader.specs.Known.{Chooses}
use Rattle.facet_solver_reader.specs.Parts.{ListId}
use Rattle.facet_solver_reader.specs.Plans.{IsPlannedList, Meaning}
use Rattle.facet_solver_checker.specs.PlanMembers.{IsIn}
use Rattle.facet_solver_checker.specs.Requires.{AreRequired, Requires}
use Rattle.facet_solver_checker.proofs.required.required_by_list.Given as goal

-- the names so far are required
abbrev pub invariant-loop-part : goal.invariant-loop-part
invariant-loop-part l =
    (m : Meaning) (id : ListId) (x : Bor Name) → AreRequired m l.lower → IsPlannedList m id l.list
    → IsIn x l.names.items → Requires (Chooses m.rules.lists id) x.now
