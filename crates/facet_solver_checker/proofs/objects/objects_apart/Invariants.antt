use Rattle.std.proofs.Common.{All, take}
use Rattle.facet_solver_reader.specs.Plans.{Meaning}
use Rattle.facet_solver_checker.specs.ListsMeet.{AllOthersApart}
use Rattle.facet_solver_checker.specs.PlanMembers.{IsMeaningOf}
use Rattle.facet_solver_checker.specs.Requires.{AreRequired}
use Rattle.facet_solver_checker.proofs.objects.objects_apart.Given as goal

-- those before this one are apart from all of the second
abbrev pub invariant-loop-inner : goal.invariant-loop-inner
invariant-loop-inner l =
    (m : Meaning) → IsMeaningOf m l.plan → AreRequired m l.required.names.items
    → All
    (λ a. AllOthersApart m l.apart (record { list = l.first; inner = a }) l.second l.seconds.items)
    (take l.inner-index l.inner-items)
