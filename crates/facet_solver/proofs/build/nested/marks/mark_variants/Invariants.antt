use Rattle.std.proofs.Common.{◌≡◌, ◌<◌, ℕ, Bool, List, length, get_or}
use Rattle.std.specs.Prelude.{All}
use Rattle.facet_solver_shape.specs.Catalogues.{VariantsBelow}
use Rattle.facet_solver_shape.specs.declared.shape.Variant.{Variant}
use Rattle.facet_solver.specs.build.Nested.{entered_view}
use Rattle.facet_solver.specs.build.NestedTable.{VariantAsks, IsMarked, IsMarkedMore, MarksAmong}
use Rattle.facet_solver.proofs.build.nested.marks.mark_variants.Given as goal

-- what those so far ask for is marked
abbrev pub invariant-loop-variant : goal.invariant-loop-variant
invariant-loop-variant l =
    ((limit : ℕ) → VariantsBelow limit l.variants → IsMarkedMore limit l.fn.marks l.marks)
    × (length l.marks ≡ length l.fn.marks)
    × ((i : ℕ) (d : Variant) → i < l.variant-index → VariantAsks (IsMarked l.marks) (entered_view l.entered) l.shapes (get_or l.variants i d))
    × ((others : List Bool) → MarksAmong l.fn.marks others → All (VariantAsks (IsMarked others) (entered_view l.entered) l.shapes) l.variants → MarksAmong l.marks others)
