use Rattle.std.proofs.Common.{take}
use Rattle.facet_solver.specs.solver.KnownShapes.{AreShapesOf}
use Rattle.facet_solver.proofs.solver.known_shapes.shapes_of.Given as goal

-- the shapes of the items so far
abbrev pub invariant-loop-item : goal.invariant-loop-item
invariant-loop-item g l = AreShapesOf g.T.Shaped.shape_of (take l.item-index l.items) l.shapes
