use Rattle.std.proofs.Common.{All, take, ℕ}
use Rattle.facet_solver_reader.specs.Plans.{Meaning}
use Rattle.facet_solver_checker.specs.BranchesMeet.{AreInnersApart}
use Rattle.facet_solver_checker.specs.Aparts.{LeavesAll}
use Rattle.facet_solver_checker.specs.PlanMembers.{AreListsOf}
use Rattle.facet_solver_checker.specs.Requires.{AreRequired}
use Rattle.facet_solver_checker.proofs.branches.all_inners_apart.Given as goal

-- those before this one are apart
abbrev pub invariant-loop-other : goal.invariant-loop-other
invariant-loop-other l =
    (m : Meaning) → AreListsOf m l.tables.plan.now → AreRequired m l.tables.required.now.names.items
    → LeavesAll m l.tables.apart.now
    → All (λ (o : ℕ). AreInnersApart m l.must_touch l.one o) (take l.other-index l.others)
