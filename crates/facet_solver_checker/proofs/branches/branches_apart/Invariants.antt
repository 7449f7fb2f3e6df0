use Rattle.std.proofs.Common.{All, take, ℕ}
use Rattle.facet_solver_reader.specs.Plans.{Meaning}
use Rattle.facet_solver_checker.specs.BranchesMeet.{AreInnersApart}
use Rattle.facet_solver_checker.specs.Aparts.{LeavesAll}
use Rattle.facet_solver_checker.specs.PlanMembers.{AreListsOf}
use Rattle.facet_solver_checker.specs.Requires.{AreRequired}
use Rattle.facet_solver_checker.proofs.branches.branches_apart.Given as goal

-- those before this one are apart from all of the second
abbrev pub invariant-loop-one : goal.invariant-loop-one
invariant-loop-one l =
    (m : Meaning) → AreListsOf m l.tables.plan.now → AreRequired m l.tables.required.now.names.items
    → LeavesAll m l.tables.apart.now
    → All (λ (i : ℕ). All (λ (o : ℕ). AreInnersApart m l.must_touch i o) l.seconds.items)
    (take l.one-index l.one-items)
