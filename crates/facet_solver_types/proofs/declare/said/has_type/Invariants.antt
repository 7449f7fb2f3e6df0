use Rattle.std.proofs.Common.{◌≡◌, drop}
use Rattle.facet_solver_types.specs.AttributeLists.{attributes_view}
use Rattle.facet_solver_types.specs.SaidOn.{has_type}
use Rattle.facet_solver_types.proofs.declare.said.has_type.Given as goal

-- what is sought of all is that of the rest
abbrev pub invariant-loop-attribute : goal.invariant-loop-attribute
invariant-loop-attribute l =
    has_type (attributes_view l.found)
    ≡ has_type (attributes_view (drop l.attribute-index l.found))
