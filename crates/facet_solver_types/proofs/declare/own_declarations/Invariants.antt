use Rattle.std.proofs.Common.{◌≡◌, ◌++◌, drop}
use Rattle.facet_solver_types.specs.Declarations.{items_view}
use Rattle.facet_solver_types.specs.Gathered.{kept}
use Rattle.facet_solver_types.specs.ReadItems.{declaration_at, own_declarations}
use Rattle.facet_solver_types.specs.Understood.{declarations_view}
use Rattle.facet_solver_types.proofs.declare.own_declarations.Given as goal

-- those that were read, and then the others
abbrev pub invariant-loop-index : goal.invariant-loop-index
invariant-loop-index l =
    let items = l.items.list.now in
    own_declarations (items_view items)
    ≡ declarations_view l.found.items
    ++ kept (declaration_at (items_view items) l.has_derives) l.index
    (items_view (drop l.index items))
