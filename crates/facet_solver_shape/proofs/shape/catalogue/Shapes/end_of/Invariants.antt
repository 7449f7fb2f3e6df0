use Rattle.std.proofs.Common.{◌≡◌, ◌<◌, length}
use Rattle.facet_solver_shape.specs.Pointers.{end_of}
use Rattle.facet_solver_shape.proofs.Pointers.{steps_left}
use Rattle.facet_solver_shape.proofs.shape.catalogue.Shapes.end_of.Given as goal

-- the end stays the same on the way to it
abbrev pub invariant-loop-next : goal.invariant-loop-next
invariant-loop-next l = (end_of l.self l.end ≡ end_of l.self l.fn.id) × (l.fn.id < length l.self → l.end < length l.self)

abbrev pub decreases-loop-next : goal.decreases-loop-next
decreases-loop-next l = steps_left l.self l.end
