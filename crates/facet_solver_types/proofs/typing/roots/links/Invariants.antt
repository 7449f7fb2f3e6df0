use Rattle.std.proofs.Common.{◌≡◌, take}
use Rattle.facet_solver_types.specs.Links.{links_view}
use Rattle.facet_solver_types.specs.Roots.{links}
use Rattle.facet_solver_types.specs.Understood.{declarations_view}
use Rattle.facet_solver_types.specs.Uses.{uses_view}
use Rattle.facet_solver_types.proofs.typing.roots.links.Given as goal

-- those so far
abbrev pub invariant-loop-used : goal.invariant-loop-used
invariant-loop-used l =
    links_view l.links.items
    ≡ links (declarations_view l.declarations.list.now) (uses_view (take l.used-index l.uses))
