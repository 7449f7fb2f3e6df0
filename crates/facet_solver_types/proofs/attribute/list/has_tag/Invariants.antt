use Rattle.std.proofs.Common.{◌≡◌, drop}
use Rattle.facet_solver_types.specs.AttributeLists.{attributes_view, has_tag}
use Rattle.facet_solver_types.proofs.attribute.list.has_tag.Given as goal

-- what is sought of all is that of the rest
abbrev pub invariant-loop-attribute : goal.invariant-loop-attribute
invariant-loop-attribute l =
    has_tag (attributes_view l.found)
    ≡ has_tag (attributes_view (drop l.attribute-index l.found))
