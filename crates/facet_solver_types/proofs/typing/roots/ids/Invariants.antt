use Rattle.std.proofs.Common.{◌≡◌, map, take}
use Rattle.std.specs.String.{string_bytes}
use Rattle.facet_solver_types.specs.Roots.{ids}
use Rattle.facet_solver_types.specs.Uses.{uses_view}
use Rattle.facet_solver_types.proofs.typing.roots.ids.Given as goal

-- those so far
abbrev pub invariant-loop-used : goal.invariant-loop-used
invariant-loop-used l =
    map string_bytes l.ids.items ≡ ids (uses_view (take l.used-index l.uses))
