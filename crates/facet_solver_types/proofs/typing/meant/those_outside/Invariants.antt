use Rattle.std.proofs.Common.{◌≡◌, ◌++◌, drop}
use Rattle.facet_solver_types.specs.Meant.{those_outside}
use Rattle.facet_solver_types.specs.Understood.{declarations_view}
use Rattle.facet_solver_types.proofs.typing.meant.those_outside.Given as goal

-- those so far, and those of the others
abbrev pub invariant-loop-index : goal.invariant-loop-index
invariant-loop-index l =
    those_outside (declarations_view l.declarations) l.indices
    ≡ l.found.items
    ++ those_outside (declarations_view l.declarations) (drop l.index-index l.indices)
