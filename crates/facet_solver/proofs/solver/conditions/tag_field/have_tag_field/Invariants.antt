use Rattle.std.proofs.Common.{◌≡◌}
use Rattle.std.specs.List.{list_any}
use Rattle.facet_solver_shape.specs.Fields.{FieldView}
use Rattle.facet_solver_shape.specs.declared.resolution.key.FieldKey.{FieldKey}
use Rattle.facet_solver.specs.solver.State.{is_tag_field}
use Rattle.facet_solver.proofs.solver.conditions.tag_field.have_tag_field.Given as goal

-- what is left decides
abbrev pub invariant-loop-field : goal.invariant-loop-field
invariant-loop-field l =
    list_any (λ (e : FieldKey × FieldView). is_tag_field l.shapes l.tag e.1) l.field-iterator
    ≡ list_any (λ (e : FieldKey × FieldView). is_tag_field l.shapes l.tag e.1) l.fields.entries
