use Rattle.std.proofs.Common.{◌≡◌, map, take}
use Rattle.facet_solver_types.specs.Layers.{part_view, type_part}
use Rattle.facet_solver_types.specs.WrittenTypes.{passages_view}
use Rattle.facet_solver_types.proofs.typing.layer.around_all.Given as goal

-- the parts so far
abbrev pub invariant-loop-part : goal.invariant-loop-part
invariant-loop-part l =
    map part_view l.parts.items ≡ map type_part (passages_view (take l.part-index l.types))
