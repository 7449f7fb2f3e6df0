use Rattle.std.proofs.Common.{map, take}
use Rattle.facet_solver_reader.specs.PlanNumbers.{meaning_of}
use Rattle.facet_solver_reader.specs.Plans.{AreInPairs, IsPlannedAlternative}
use Rattle.facet_solver_reader.specs.Views.{alternative_view}
use Rattle.facet_solver_reader.proofs.plan.targets.planned_alternatives.Given as goal

-- the variants before this one are planned
abbrev pub invariant-loop-alternative : goal.invariant-loop-alternative
invariant-loop-alternative l =
    AreInPairs (IsPlannedAlternative (meaning_of l.tables l.numbers)) (map alternative_view (take l.alternative-index l.alone))
    l.alternatives.items
