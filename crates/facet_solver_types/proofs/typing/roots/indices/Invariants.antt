use Rattle.std.proofs.Common.{◌≡◌, take}
use Rattle.facet_solver_types.specs.Roots.{indices}
use Rattle.facet_solver_types.specs.Uses.{uses_view}
use Rattle.facet_solver_types.proofs.typing.roots.indices.Given as goal

-- those so far
abbrev pub invariant-loop-used : goal.invariant-loop-used
invariant-loop-used l =
    l.found.items ≡ indices (uses_view (take l.used-index l.uses))
