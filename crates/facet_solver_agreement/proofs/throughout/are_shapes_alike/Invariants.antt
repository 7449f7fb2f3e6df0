use Rattle.std.proofs.Common.{ℕ, ◌<◌, IsTrue}
use Rattle.facet_solver_agreement.specs.Throughout.{is_shape_alike}
use Rattle.facet_solver_agreement.proofs.throughout.are_shapes_alike.Given as goal

abbrev pub invariant-loop-index : goal.invariant-loop-index
invariant-loop-index l = (id : ℕ) → id < l.index → IsTrue (is_shape_alike l.shapes id)
