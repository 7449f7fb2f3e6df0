use Rattle.std.proofs.Common.{◌≡◌, ◌<◌, ℕ, Bool, List, length}
use Rattle.facet_solver.specs.build.Build.{kind_at}
use Rattle.facet_solver.specs.build.Nested.{entered_view}
use Rattle.facet_solver.specs.build.NestedTable.{AskedBy, IsMarked, KindAsks, MarksAmong}
use Rattle.facet_solver.proofs.build.nested.marks.mark_asked_by.Given as goal

-- what those so far ask for is marked
abbrev pub invariant-loop-index : goal.invariant-loop-index
invariant-loop-index l =
    (length l.marks ≡ length l.fn.marks)
    × MarksAmong l.fn.marks l.marks
    × ((id : ℕ) → id < l.index → IsMarked l.others id → KindAsks (IsMarked l.marks) (entered_view l.entered) l.shapes (kind_at l.shapes id))
    × ((more : List Bool) → MarksAmong l.fn.marks more → AskedBy (entered_view l.entered) l.shapes l.others more → MarksAmong l.marks more)
