use Rattle.std.proofs.Common.{◌+◌, ◌-◌, ◌≤◌, length, take}
use Rattle.facet_solver_shape.specs.Steps.{NoCountFalls}
use Rattle.facet_solver.specs.build.Build.{build_of}
use Rattle.facet_solver.specs.build.Counts.{AreFirstCounts}
use Rattle.facet_solver.specs.build.FieldCount.{field_count}
use Rattle.facet_solver.proofs.build.count.Counts.before.Given as goal

-- the shapes so far are counted, and their fields visited
abbrev pub invariant-loop-build : goal.invariant-loop-build
invariant-loop-build l =
    AreFirstCounts (build_of l.build) l.by_index.items
    × (length l.by_index.items ≤ l.limit)
    × (l.steps.visits ≤ l.fn.steps.visits + field_count (take (length l.by_index.items) l.build.shapes.now))
    × NoCountFalls l.fn.steps l.steps

abbrev pub decreases-loop-build : goal.decreases-loop-build
decreases-loop-build l = l.limit - length l.by_index.items
