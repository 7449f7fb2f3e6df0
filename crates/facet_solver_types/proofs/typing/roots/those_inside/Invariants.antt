use Rattle.std.proofs.Common.{◌≡◌, ◌++◌, drop}
use Rattle.facet_solver_types.specs.Roots.{those_inside}
use Rattle.facet_solver_types.specs.Understood.{declarations_view}
use Rattle.facet_solver_types.proofs.typing.roots.those_inside.Given as goal

-- those so far, and those of the others
abbrev pub invariant-loop-index : goal.invariant-loop-index
invariant-loop-index l =
    those_inside (declarations_view l.declarations) l.indices
    ≡ l.found.items
    ++ those_inside (declarations_view l.declarations) (drop l.index-index l.indices)
