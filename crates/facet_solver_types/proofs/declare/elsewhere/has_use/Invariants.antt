use Rattle.std.proofs.Common.{◌≡◌, drop}
use Rattle.facet_solver_types.specs.Declarations.{items_view}
use Rattle.facet_solver_types.specs.Elsewhere.{has_use}
use Rattle.facet_solver_types.proofs.declare.elsewhere.has_use.Given as goal

-- one of all is a `use` if one of the rest is
abbrev pub invariant-loop-item : goal.invariant-loop-item
invariant-loop-item l = has_use (items_view l.items) ≡ has_use (items_view (drop l.item-index l.items))
