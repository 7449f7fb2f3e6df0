use Rattle.std.proofs.Common.{map, take}
use Rattle.facet_solver_reader.specs.PlanNumbers.{meaning_of}
use Rattle.facet_solver_reader.specs.Plans.{AreInPairs, IsPlannedName}
use Rattle.facet_solver_reader.specs.Views.{named_view}
use Rattle.facet_solver_reader.proofs.plan.targets.planned_names.Given as goal

-- the variants before this one are planned
abbrev pub invariant-loop-variant : goal.invariant-loop-variant
invariant-loop-variant l =
    AreInPairs (IsPlannedName (meaning_of l.tables l.numbers)) (map named_view (take l.variant-index l.variants))
    l.names.items
