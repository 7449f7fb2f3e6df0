use Rattle.std.proofs.Common.{◌≡◌, drop}
use Rattle.facet_solver_types.specs.AttributeLists.{attributes_view, has_clash}
use Rattle.facet_solver_types.specs.Attributes.{attribute_view}
use Rattle.facet_solver_types.proofs.attribute.list.has_clash.Given as goal

-- one of all excludes it if one of the rest does
abbrev pub invariant-loop-one : goal.invariant-loop-one
invariant-loop-one l =
    has_clash (attributes_view l.found) (attribute_view l.attribute)
    ≡ has_clash (attributes_view (drop l.one-index l.found)) (attribute_view l.attribute)
