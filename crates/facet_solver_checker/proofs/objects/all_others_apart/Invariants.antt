use Rattle.std.proofs.Common.{take}
use Rattle.facet_solver_reader.specs.Plans.{Meaning}
use Rattle.facet_solver_checker.specs.ListsMeet.{AllOthersApart}
use Rattle.facet_solver_checker.specs.PlanMembers.{IsMeaningOf}
use Rattle.facet_solver_checker.specs.Requires.{AreRequired}
use Rattle.facet_solver_checker.proofs.objects.all_others_apart.Given as goal

-- those before this one are apart
abbrev pub invariant-loop-inner : goal.invariant-loop-inner
invariant-loop-inner l =
    (m : Meaning) → IsMeaningOf m l.plan → AreRequired m l.required.names.items
    → AllOthersApart m l.apart l.first l.second (take l.inner-index l.inners)
