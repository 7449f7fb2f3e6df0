use Rattle.std.proofs.Common.{◌≡◌, ◌≤◌, ℕ, Bool, List, length}
use Rattle.facet_solver.specs.build.Build.{kind_at}
use Rattle.facet_solver.specs.build.Nested.{entered_view}
use Rattle.facet_solver.specs.build.NestedTable.{IsClosed, IsMarked, KindAsks, MarksAmong}
use Rattle.facet_solver.proofs.build.nested.marks.close_marks.Given as goal

-- what the marked shapes from an index on ask for is marked
abbrev pub invariant-loop-left : goal.invariant-loop-left
invariant-loop-left l =
    (l.left ≤ length l.marks)
    × (length l.marks ≡ length l.fn.marks)
    × ((id : ℕ) → IsMarked l.fn.marks id → IsMarked l.marks id)
    × ((others : List Bool) → MarksAmong l.fn.marks others → IsClosed (entered_view l.entered) l.shapes others → MarksAmong l.marks others)
    × ((id : ℕ) → l.left ≤ id → IsMarked l.marks id → KindAsks (IsMarked l.marks) (entered_view l.entered) l.shapes (kind_at l.shapes id))

abbrev pub decreases-loop-left : goal.decreases-loop-left
decreases-loop-left l = l.left
