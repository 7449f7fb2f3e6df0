use Rattle.std.proofs.Common.{◌≡◌, inl, inr, true, false}
use Rattle.facet_solver_reader.specs.Reading.{object_view}
use Rattle.facet_solver_reader.specs.Readings.{ReadsValue}
use Rattle.facet_solver_reader.specs.Tables.{rules_at}
use Rattle.facet_solver_reader.specs.Views.{selection_view}
use Rattle.facet_solver_reader.proofs.Selections.{count_of_absent}
use Rattle.facet_solver_reader.proofs.count.selection.count_selection.Goals as goal
use Rattle.facet_solver_reader.proofs.count.selection.count_selection.Goals.{else-selection-via-then-selection+else-not-touches, else-selection-via-else-selection}

pub returns-then-not-touches : goal.returns-then-not-touches
returns-then-not-touches c =
    let rules = rules_at c.args.tables.now in
    count_of_absent rules (ReadsValue rules) (object_view c.args.nodes.now c.args.object.now)
    (selection_view c.args.selection.now) c.if-selection.true
    (λ touched.
    let is : c.touches.result ≡ true = c.touches.ensures.1 touched in
    let isnt : c.touches.result ≡ false = c.if-not-touches.true in
    absurd (cc))

pub count_branches-requires-clause-present : goal.count_branches-requires-clause-present
count_branches-requires-clause-present c =
    elim c.else-selection.branch [
      | else-selection-via-then-selection+else-not-touches w ↦
          inr (w.touches.ensures.0 w.if-not-touches.false)
      | else-selection-via-else-selection w ↦ inl w.if-selection.false
    ]
