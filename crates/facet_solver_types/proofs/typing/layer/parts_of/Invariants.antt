use Rattle.std.proofs.Common.{◌≡◌, ◌++◌, drop, length, map}
use Rattle.facet_solver_types.specs.Declarations.{parameters_view}
use Rattle.facet_solver_types.specs.Layers.{part_view, parts_of}
use Rattle.facet_solver_types.specs.WrittenTypes.{passages_view}
use Rattle.facet_solver_types.proofs.typing.layer.parts_of.Given as goal

-- all parts are those so far, and those of the rest
abbrev pub invariant-loop-parameter : goal.invariant-loop-parameter
invariant-loop-parameter l =
    parts_of (parameters_view l.parameters) (passages_view l.passages)
    ≡ map part_view l.parts.items
    ++ parts_of (parameters_view (drop (length l.yielded) l.parameters))
    (passages_view (drop (length l.yielded) l.passages))
