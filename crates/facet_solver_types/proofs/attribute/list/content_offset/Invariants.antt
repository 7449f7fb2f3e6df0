use Rattle.std.proofs.Common.{◌≡◌, drop}
use Rattle.facet_solver_types.specs.AttributeLists.{attributes_view, content_offset}
use Rattle.facet_solver_types.proofs.attribute.list.content_offset.Given as goal

-- what is sought of all is that of the rest
abbrev pub invariant-loop-attribute : goal.invariant-loop-attribute
invariant-loop-attribute l =
    content_offset (attributes_view l.found)
    ≡ content_offset (attributes_view (drop l.attribute-index l.found))
