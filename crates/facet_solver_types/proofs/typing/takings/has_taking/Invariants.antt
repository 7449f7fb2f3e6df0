use Rattle.std.proofs.Common.{◌≡◌, drop}
use Rattle.facet_solver_types.specs.Takings.{has_taking}
use Rattle.facet_solver_types.specs.Understood.{declarations_view}
use Rattle.facet_solver_types.proofs.typing.takings.has_taking.Given as goal

-- one of all is if one of the rest is
abbrev pub invariant-loop-index : goal.invariant-loop-index
invariant-loop-index l =
    has_taking (declarations_view l.declarations) l.indices
    ≡ has_taking (declarations_view l.declarations) (drop l.index-index l.indices)
