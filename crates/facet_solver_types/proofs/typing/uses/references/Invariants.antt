use Rattle.std.proofs.Common.{◌≡◌, map, take}
use Rattle.facet_solver_types.specs.Uses.{use_view, uses_view}
use Rattle.facet_solver_types.proofs.typing.uses.references.Given as goal

-- those so far
abbrev pub invariant-loop-used : goal.invariant-loop-used
invariant-loop-used l =
    map (λ u. use_view u.now) l.found.items ≡ uses_view (take l.used-index l.uses)
