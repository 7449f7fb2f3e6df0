use Rattle.std.proofs.Common.{◌≡◌}
use Rattle.facet_solver_shape.specs.EffectiveShapes.{effective}
use Rattle.facet_solver_shape.proofs.shape.catalogue.Shapes.effective.Given as goal

-- the effective shape stays the same on the way to it
abbrev pub invariant-loop-shape : goal.invariant-loop-shape
invariant-loop-shape l = effective l.self l.id ≡ effective l.self l.fn.id

abbrev pub decreases-loop-shape : goal.decreases-loop-shape
decreases-loop-shape l = l.id
