use Rattle.std.proofs.Common.{◌≡◌, drop}
use Rattle.facet_solver_types.specs.Roots.{has_outside}
use Rattle.facet_solver_types.specs.Understood.{declarations_view}
use Rattle.facet_solver_types.specs.Uses.{uses_view}
use Rattle.facet_solver_types.proofs.typing.roots.has_outside.Given as goal

-- one of all is if one of the rest is
abbrev pub invariant-loop-used : goal.invariant-loop-used
invariant-loop-used l =
    has_outside (declarations_view l.declarations) (uses_view l.uses)
    ≡ has_outside (declarations_view l.declarations) (uses_view (drop l.used-index l.uses))
