use Rattle.std.proofs.Common.{◌≡◌, [], fold, length, take}
use Rattle.facet_solver_types.specs.Links.{links_view}
use Rattle.facet_solver_types.specs.Walks.{with_type}
use Rattle.facet_solver_types.proofs.catalogue.walks.in_order.Given as goal

-- those so far are added
abbrev pub invariant-loop-place : goal.invariant-loop-place
invariant-loop-place l =
    l.order.places.items
    ≡ fold (with_type (links_view l.needs) (length l.needs)) [] (take l.place-index l.places)
