use Rattle.std.proofs.Common.{◌≡◌, ◌≤◌, ◌+◌, ℕ, List, ◌++◌, length, map}
use Rattle.facet_solver_shape.specs.Keys.{key_of}
use Rattle.facet_solver_shape.specs.Steps.{NoCountFalls}
use Rattle.facet_solver.specs.solver.KeyResult.{distinct_fields, scored_view}
use Rattle.facet_solver.specs.solver.KnownShapes.{AreShapesOf}
use Rattle.facet_solver.proofs.solver.many_fields.add_unknown.Given as goal

abbrev pub invariant-loop-index : goal.invariant-loop-index
invariant-loop-index l = record {
  known : AreShapesOf (λ e. e.0.now.shape) l.fields.items l.shapes;
  shown : (yielded : List ℕ) × (yielded ++ l.rest.items ≡ l.fn.rest.items)
      × ((seen : List ℕ) → map scored_view l.fn.fields.items ≡ distinct_fields (key_of l.search.key) l.search.schema.now seen
      → map scored_view l.fields.items ≡ distinct_fields (key_of l.search.key) l.search.schema.now (seen ++ yielded));
  words : l.steps.words + l.rest.unread ≤ l.fn.steps.words + l.fn.rest.unread;
  searches : l.steps.searches + length l.rest.items ≤ l.fn.steps.searches + length l.fn.rest.items;
  no_fall : NoCountFalls l.fn.steps l.steps;
}

abbrev pub decreases-loop-index : goal.decreases-loop-index
decreases-loop-index l = length l.rest.items
