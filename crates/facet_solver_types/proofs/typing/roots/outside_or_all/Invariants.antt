use Rattle.std.proofs.Common.{◌≡◌, filter}
use Rattle.facet_solver_types.specs.Meant.{is_outside}
use Rattle.facet_solver_types.specs.Understood.{declarations_view}
use Rattle.facet_solver_types.specs.Uses.{Use, uses_view}
use Rattle.facet_solver_types.proofs.typing.roots.outside_or_all.Given as goal

-- those so far
abbrev pub invariant-loop-used : goal.invariant-loop-used
invariant-loop-used l =
    uses_view l.found.items
    ≡ filter (λ (u : Use). is_outside (declarations_view l.declarations) u.index)
    (uses_view l.yielded)
