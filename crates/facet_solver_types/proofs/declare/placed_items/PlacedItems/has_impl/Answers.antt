use Rattle.std.proofs.Common.{◌∙◌, ap}
use Rattle.facet_solver_types.specs.Declarations.{items_view}
use Rattle.facet_solver_types.specs.NamePlaces.{has_name}
use Rattle.facet_solver_types.proofs.PlacedItems.{impl_by_name}
use Rattle.facet_solver_types.proofs.declare.placed_items.PlacedItems.has_impl.Goals as goal

pub returns : goal.returns
returns c =
    let name = c.args.name.now in
    let self = c.args.self.now in
    c.contains.ensures
    ∙ ap (λ names. has_name names name) self.implemented
    ∙ impl_by_name name (items_view self.list.now)
