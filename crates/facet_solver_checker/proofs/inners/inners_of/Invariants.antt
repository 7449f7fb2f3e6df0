use Rattle.facet_solver_reader.specs.Plans.{Meaning}
use Rattle.facet_solver_checker.specs.Inners.{AreInners}
use Rattle.facet_solver_checker.specs.PlanMembers.{AreListsOf}
use Rattle.facet_solver_checker.proofs.inners.inners_of.Given as goal

-- they are such lists
abbrev pub invariant-loop : goal.invariant-loop
invariant-loop l = (m : Meaning) → AreListsOf m l.plan → AreInners m l.number l.inners.items
