use Rattle.std.proofs.Common.{◌≡◌, drop}
use Rattle.facet_solver_types.specs.AttributeLists.{attributes_view}
use Rattle.facet_solver_types.specs.Sought.{offset_of}
use Rattle.facet_solver_types.proofs.declare.sought.offset_of.Given as goal

-- what is sought of all is that of the rest
abbrev pub invariant-loop-attribute : goal.invariant-loop-attribute
invariant-loop-attribute l =
    offset_of l.meaning (attributes_view l.found)
    ≡ offset_of l.meaning (attributes_view (drop l.attribute-index l.found))
