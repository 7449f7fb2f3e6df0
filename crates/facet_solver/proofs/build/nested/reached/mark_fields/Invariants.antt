use Rattle.std.proofs.Common.{◌≡◌, ◌+◌, ◌<◌, ℕ, get_or}
use Rattle.std.specs.Prelude.{All}
use Rattle.facet_solver_shape.specs.Catalogues.{FieldsBelow}
use Rattle.facet_solver_shape.specs.Steps.{NoCountFalls}
use Rattle.facet_solver_shape.specs.declared.shape.Field.{Field}
use Rattle.facet_solver.specs.build.Reached.{FieldReached, IsReachedMore, Reach, ReachAmong, reach}
use Rattle.facet_solver.proofs.build.nested.reached.mark_fields.Given as goal

-- what those so far lead to is marked
abbrev pub invariant-loop-index : goal.invariant-loop-index
invariant-loop-index l =
    ((limit : ℕ) → FieldsBelow limit l.fields → IsReachedMore limit (reach l.fn.walked l.fn.structs) (reach l.walked l.structs))
    × ((i : ℕ) (d : Field) → i < l.index → FieldReached (reach l.walked l.structs) l.shapes (get_or l.fields i d))
    × (l.steps.visits ≡ l.fn.steps.visits + l.index)
    × NoCountFalls l.fn.steps l.steps
    × ((others : Reach) → ReachAmong (reach l.fn.walked l.fn.structs) others → All (FieldReached others l.shapes) l.fields → ReachAmong (reach l.walked l.structs) others)
