use Rattle.std.proofs.Common.{◌≡◌, ℕ, ◌<◌, Some, slice_get}
use Rattle.facet_solver_shape.specs.Catalogues.{Catalogue}
use Rattle.facet_solver_reader.specs.declared.part.ListId.{ListId}
use Rattle.facet_solver_reader.specs.EveryList.{AreEveryList}
use Rattle.facet_solver_reader.specs.Placing.{IsUnplaced}
use Rattle.facet_solver_reader.specs.Views.{list_view}
use Rattle.facet_solver_reader.proofs.tables.order.Ordered.has_branches_of.Given as goal

-- each branch before this one is placed, or has no choice
abbrev pub invariant-loop-branch : goal.invariant-loop-branch
invariant-loop-branch l =
    (shapes : Catalogue) → AreEveryList shapes l.every → (k : ℕ) (b : ListId) → k < l.branch-index
    → slice_get l.branch-items k ≡ Some b → ¬ IsUnplaced shapes l.self (list_view b)
