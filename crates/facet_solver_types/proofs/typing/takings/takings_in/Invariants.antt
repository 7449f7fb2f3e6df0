use Rattle.std.proofs.Common.{◌≡◌, ◌++◌, drop}
use Rattle.facet_solver_types.specs.Takings.{takings_in}
use Rattle.facet_solver_types.specs.Understood.{declarations_view}
use Rattle.facet_solver_types.proofs.typing.takings.takings_in.Given as goal

-- those so far, and those of the others
abbrev pub invariant-loop-index : goal.invariant-loop-index
invariant-loop-index l =
    takings_in (declarations_view l.declarations) l.module_name l.indices
    ≡ l.found.items
    ++ takings_in (declarations_view l.declarations) l.module_name (drop l.index-index l.indices)
