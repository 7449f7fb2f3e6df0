use Rattle.std.proofs.Common.{◌≡◌, ◌≤◌, ℕ, length}
use Rattle.facet_solver.specs.build.Build.{build_of}
use Rattle.facet_solver.specs.build.NestedTable.{IsMarked}
use Rattle.facet_solver.specs.build.Reached.{AreReached, Marked, AskedAmong, IsReachedAt, IsReachedMore, marked, reach}
use Rattle.facet_solver.proofs.build.nested.reached.mark_walked.Given as goal

-- what the marked shapes from an index on lead to is marked
abbrev pub invariant-loop-left : goal.invariant-loop-left
invariant-loop-left l =
    (l.left ≤ length l.fn.walked)
    × IsReachedMore (length l.fn.walked) (reach l.fn.walked l.fn.structs) (reach l.walked l.structs)
    × (length l.apart ≡ length l.fn.apart)
    × ((id : ℕ) → l.left ≤ id → IsMarked l.walked id → IsReachedAt (reach l.walked l.structs) l.apart (build_of l.build) id)
    × ((others : Marked) → AskedAmong (marked l.fn.walked l.fn.structs l.fn.apart) others → AreReached (build_of l.build) others → AskedAmong (marked l.walked l.structs l.apart) others)

abbrev pub decreases-loop-left : goal.decreases-loop-left
decreases-loop-left l = l.left
