use Rattle.std.proofs.Common.{◌≡◌, drop}
use Rattle.facet_solver_types.specs.Declarations.{items_view}
use Rattle.facet_solver_types.specs.Derives.{has_derives}
use Rattle.facet_solver_types.proofs.declare.derived.has_derives.Given as goal

-- what is sought of all is that of the rest
abbrev pub invariant-loop-item : goal.invariant-loop-item
invariant-loop-item l =
    has_derives (items_view l.items) ≡ has_derives (items_view (drop l.item-index l.items))
