use Rattle.std.proofs.Common.{◌≡◌, flat_map, take}
use Rattle.facet_solver_types.specs.Declarations.{items_view}
use Rattle.facet_solver_types.specs.Elsewhere.{taken_by}
use Rattle.facet_solver_types.specs.PlacedNames.{names_in}
use Rattle.facet_solver_types.specs.Understood.{declarations_view}
use Rattle.facet_solver_types.proofs.declare.elsewhere.elsewhere.Given as goal

-- those so far
abbrev pub invariant-loop-item : goal.invariant-loop-item
invariant-loop-item l =
    declarations_view l.found.items
    ≡ flat_map (taken_by (names_in l.modules) (names_in l.names))
    (items_view (take l.item-index l.items))
