use Rattle.std.proofs.Common.{◌≡◌, ℕ, Some, map, slice_get, take}
use Rattle.facet_solver_reader.specs.Parts.{of_shape}
use Rattle.facet_solver_reader.specs.PlanNumbers.{targets_of}
use Rattle.facet_solver_reader.specs.Plans.{AreInPairs}
use Rattle.facet_solver_reader.proofs.plan.contents.planned_shapes.Given as goal

-- the shapes before this one have their numbers
abbrev pub invariant-loop-shape : goal.invariant-loop-shape
invariant-loop-shape l =
    AreInPairs (λ (id n : ℕ). slice_get (targets_of l.numbers) n ≡ Some (of_shape id))
    (map (λ (id : ℕ). id) (take l.shape-index l.shapes)) l.planned.items
