use Rattle.std.proofs.Common.{◌≡◌, map, take}
use Rattle.std.specs.List.{flat_map}
use Rattle.facet_solver_reader.specs.Reached.{asked_by_kind}
use Rattle.facet_solver_reader.specs.TargetKeys.{key_view}
use Rattle.facet_solver_reader.specs.Views.{alternative_view}
use Rattle.facet_solver_reader.proofs.plan.asked.asked_by_alternatives.Given as goal

-- what the variants before this one ask
abbrev pub invariant-loop-alternative : goal.invariant-loop-alternative
invariant-loop-alternative l =
    map key_view l.asked.items
    ≡ flat_map (λ a. asked_by_kind a.kind a.content)
    (map alternative_view (take l.alternative-index l.alone))
