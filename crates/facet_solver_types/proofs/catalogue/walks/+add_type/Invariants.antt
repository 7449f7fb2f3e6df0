use Rattle.std.proofs.Common.{◌≡◌, ◌-◌, fold, take}
use Rattle.facet_solver_types.specs.Links.{links_view}
use Rattle.facet_solver_types.specs.Walks.{with_type}
use Rattle.facet_solver_types.proofs.catalogue.walks.+add_type.Given as goal

abbrev pub decreases-add_type : goal.decreases-add_type
decreases-add_type l = l.over

-- those so far are added
abbrev pub invariant-loop-need : goal.invariant-loop-need
invariant-loop-need l =
    l.order.places.items
    ≡ fold (with_type (links_view l.needs) (l.over - 1)) l.initial.order.places.items
    (take l.need-index l.need-items)
