use Rattle.std.proofs.Common.{◌≡◌, ◌++◌, drop}
use Rattle.facet_solver_types.specs.Takings.{those_declared}
use Rattle.facet_solver_types.specs.Understood.{declarations_view}
use Rattle.facet_solver_types.proofs.typing.takings.those_declared.Given as goal

-- those so far, and those of the others
abbrev pub invariant-loop-index : goal.invariant-loop-index
invariant-loop-index l =
    those_declared (declarations_view l.declarations) l.indices
    ≡ l.found.items
    ++ those_declared (declarations_view l.declarations) (drop l.index-index l.indices)
