use Rattle.std.proofs.Common.{◌+◌, ◌-◌, ◌≤◌, length, take}
use Rattle.facet_solver_shape.specs.Steps.{NoCountFalls}
use Rattle.facet_solver.specs.build.Nested.{entered_view}
use Rattle.facet_solver.specs.build.FieldCount.{field_count}
use Rattle.facet_solver.specs.build.NestedTable.{AreFirstEntries}
use Rattle.facet_solver.proofs.build.nested.table.NestedTable.new.Given as goal

-- the entries so far, and the visits that they took
abbrev pub invariant-loop-entered : goal.invariant-loop-entered
invariant-loop-entered l =
    AreFirstEntries (entered_view l.entered) l.build.shapes.now l.marks l.apart l.by_index.items
    × (l.steps.visits ≤ l.fn.steps.visits + field_count (take (length l.by_index.items) l.build.shapes.now))
    × NoCountFalls l.fn.steps l.steps

abbrev pub decreases-loop-entered : goal.decreases-loop-entered
decreases-loop-entered l = length l.marks - length l.by_index.items
