use Rattle.std.proofs.Common.{All, Bor, take}
use Rattle.facet_solver_shape.specs.Names.{Name}
use Rattle.facet_solver_reader.specs.Plans.{Meaning}
use Rattle.facet_solver_checker.specs.BranchesMeet.{IsMemberApart}
use Rattle.facet_solver_checker.specs.PlanMembers.{AreListsOf}
use Rattle.facet_solver_checker.proofs.branches.all_members_apart.Given as goal

-- the members of the names before this one are apart
abbrev pub invariant-loop-name : goal.invariant-loop-name
invariant-loop-name l =
    (m : Meaning) → AreListsOf m l.plan
    → All (λ (x : Bor Name). IsMemberApart m l.apart l.first l.second x.now)
    (take l.name-index l.names)
