use Rattle.std.proofs.Common.{◌≡◌, ℕ, ◌<◌, Some, slice_get}
use Rattle.facet_solver_shape.specs.Catalogues.{Catalogue}
use Rattle.facet_solver_reader.specs.declared.part.Part.{Part}
use Rattle.facet_solver_reader.specs.EveryList.{AreEveryList}
use Rattle.facet_solver_reader.specs.Placing.{PartIsPlaced}
use Rattle.facet_solver_reader.specs.Views.{part_view}
use Rattle.facet_solver_reader.proofs.tables.order.Ordered.has_branches.Given as goal

-- the branches of each part before this one are placed, or have no choice
abbrev pub invariant-loop-part : goal.invariant-loop-part
invariant-loop-part l =
    (shapes : Catalogue) → AreEveryList shapes l.every → (k : ℕ) (p : Part) → k < l.part-index
    → slice_get l.parts k ≡ Some p → PartIsPlaced shapes l.self (part_view p)
