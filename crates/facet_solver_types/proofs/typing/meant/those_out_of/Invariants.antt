use Rattle.std.proofs.Common.{◌≡◌, ◌++◌, drop}
use Rattle.facet_solver_types.specs.Meant.{those_out_of}
use Rattle.facet_solver_types.specs.Understood.{declarations_view}
use Rattle.facet_solver_types.proofs.typing.meant.those_out_of.Given as goal

-- those so far, and those of the others
abbrev pub invariant-loop-index : goal.invariant-loop-index
invariant-loop-index l =
    those_out_of (declarations_view l.declarations) l.module_name l.indices
    ≡ l.found.items
    ++ those_out_of (declarations_view l.declarations) l.module_name (drop l.index-index l.indices)
