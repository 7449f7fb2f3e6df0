use Rattle.std.proofs.Common.{◌≡◌, drop}
use Rattle.facet_solver_types.specs.Declarations.{items_view, module_item_view}
use Rattle.facet_solver_types.specs.PlacedItems.{has_form_at}
use Rattle.facet_solver_types.specs.Tokens.{tokens_view}
use Rattle.facet_solver_types.proofs.declare.conditions.has_form_at.Given as goal

-- one of all is if one of the rest is
abbrev pub invariant-loop-place : goal.invariant-loop-place
invariant-loop-place l =
    has_form_at (tokens_view l.condition) (module_item_view l.item) (items_view l.others) l.places
    ≡ has_form_at (tokens_view l.condition) (module_item_view l.item) (items_view l.others)
    (drop l.place-index l.places)
