use Rattle.std.proofs.Common.{◌≡◌, take}
use Rattle.facet_solver_shape.specs.Names.{names_of}
use Rattle.facet_solver_types.specs.Declarations.{items_view}
use Rattle.facet_solver_types.specs.Elsewhere.{module_names}
use Rattle.facet_solver_types.proofs.declare.elsewhere.module_names.Given as goal

-- those so far
abbrev pub invariant-loop-item : goal.invariant-loop-item
invariant-loop-item l =
    names_of l.names.items ≡ module_names (items_view (take l.item-index l.items))
