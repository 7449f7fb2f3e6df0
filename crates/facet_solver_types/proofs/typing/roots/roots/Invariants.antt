use Rattle.std.proofs.Common.{◌≡◌}
use Rattle.facet_solver_types.specs.Links.{links_view}
use Rattle.facet_solver_types.specs.PlacedNames.{names_in}
use Rattle.facet_solver_types.specs.Roots.{roots}
use Rattle.facet_solver_types.specs.Understood.{declarations_view}
use Rattle.facet_solver_types.specs.Uses.{uses_view}
use Rattle.facet_solver_types.proofs.typing.roots.roots.Given as goal

-- those so far
abbrev pub invariant-loop-used : goal.invariant-loop-used
invariant-loop-used l =
    uses_view l.found.items
    ≡ roots (declarations_view l.declarations) (names_in l.names) (links_view l.mentioned.links.items)
    (uses_view l.yielded)
