use Rattle.std.proofs.Common.{◌≡◌, drop, map}
use Rattle.facet_solver_types.specs.Layers.{part_view}
use Rattle.facet_solver_types.specs.Mentions.{inside_view, nothing, with_parts}
use Rattle.facet_solver_types.specs.Scopes.{scope_view}
use Rattle.facet_solver_types.proofs.MentionTurns.{below}
use Rattle.facet_solver_types.proofs.typing.mention.+mentions.Given as goal

-- what all parts mention is what those so far do, and then the rest
abbrev pub invariant-loop-part : goal.invariant-loop-part
invariant-loop-part l =
    with_parts (below l.levels) (scope_view l.scope) nothing (map part_view l.part-items)
    ≡ with_parts (below l.levels) (scope_view l.scope) (inside_view l.inside)
    (map part_view (drop l.part-index l.part-items))

abbrev pub decreases-mentions : goal.decreases-mentions
decreases-mentions l = l.levels
