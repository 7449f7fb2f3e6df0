use Rattle.std.proofs.Common.{◌≡◌, drop}
use Rattle.facet_solver_types.specs.AttributeLists.{attributes_view}
use Rattle.facet_solver_types.specs.Sought.{mark_said}
use Rattle.facet_solver_types.proofs.declare.sought.mark_said.Given as goal

-- what is sought of all is that of the rest
abbrev pub invariant-loop-attribute : goal.invariant-loop-attribute
invariant-loop-attribute l =
    mark_said (attributes_view l.found)
    ≡ mark_said (attributes_view (drop l.attribute-index l.found))
