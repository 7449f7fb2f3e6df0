use Rattle.std.proofs.Common.{◌≡◌}
use Rattle.std.specs.List.{list_any}
use Rattle.facet_solver_shape.specs.Fields.{FieldView}
use Rattle.facet_solver_shape.specs.declared.resolution.key.FieldKey.{FieldKey}
use Rattle.facet_solver.specs.solver.FirstOfEach.{is_among}
use Rattle.facet_solver.proofs.solver.conditions.shape_among.have_shape_among.Given as goal

-- what is left decides
abbrev pub invariant-loop-field : goal.invariant-loop-field
invariant-loop-field g l =
    list_any (λ (e : FieldKey × FieldView). is_among g.T.Shaped.shape_of l.items e.1.shape) l.field-iterator
    ≡ list_any (λ (e : FieldKey × FieldView). is_among g.T.Shaped.shape_of l.items e.1.shape) l.fields.entries
