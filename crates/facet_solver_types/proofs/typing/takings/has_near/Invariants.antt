use Rattle.std.proofs.Common.{◌≡◌, drop}
use Rattle.facet_solver_types.specs.Scopes.{scope_view}
use Rattle.facet_solver_types.specs.Takings.{has_near}
use Rattle.facet_solver_types.proofs.typing.takings.has_near.Given as goal

-- one of all is if one of the rest is
abbrev pub invariant-loop-index : goal.invariant-loop-index
invariant-loop-index l =
    has_near (scope_view l.scope) l.indices
    ≡ has_near (scope_view l.scope) (drop l.index-index l.indices)
