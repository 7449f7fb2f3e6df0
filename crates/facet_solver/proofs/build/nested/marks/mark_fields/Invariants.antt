use Rattle.std.proofs.Common.{◌≡◌, ◌<◌, ℕ, Bool, List, length, get_or}
use Rattle.std.specs.Prelude.{All}
use Rattle.facet_solver_shape.specs.Catalogues.{FieldsBelow}
use Rattle.facet_solver_shape.specs.declared.shape.Field.{Field}
use Rattle.facet_solver.specs.build.Nested.{entered_view}
use Rattle.facet_solver.specs.build.NestedTable.{FieldAsks, IsMarked, IsMarkedMore, MarksAmong}
use Rattle.facet_solver.proofs.build.nested.marks.mark_fields.Given as goal

-- what those so far ask for is marked
abbrev pub invariant-loop-field : goal.invariant-loop-field
invariant-loop-field l =
    ((limit : ℕ) → FieldsBelow limit l.fields → IsMarkedMore limit l.fn.marks l.marks)
    × (length l.marks ≡ length l.fn.marks)
    × ((i : ℕ) (d : Field) → i < l.field-index → FieldAsks (IsMarked l.marks) (entered_view l.entered) l.shapes (get_or l.fields i d))
    × ((others : List Bool) → MarksAmong l.fn.marks others → All (FieldAsks (IsMarked others) (entered_view l.entered) l.shapes) l.fields → MarksAmong l.marks others)
