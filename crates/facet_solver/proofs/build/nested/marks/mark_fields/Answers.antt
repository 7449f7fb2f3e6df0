use Rattle.std.proofs.Common.{◌+◌, ap, arith, subst, sym, ◌∙◌}
use Rattle.facet_solver_shape.specs.declared.shape.Field.{Field}
use Rattle.facet_solver.specs.build.Nested.{entered_view}
use Rattle.facet_solver.specs.build.NestedTable.{FieldAsks, IsMarked}
use Rattle.facet_solver.proofs.Marks.{more-mono, more-trans, up_to_one}
use Rattle.facet_solver.proofs.Roles.{FieldsBelow-at}
use Rattle.facet_solver.proofs.build.nested.marks.mark_fields.Goals as goal

pub mark_field-requires : goal.mark_field-requires
mark_field-requires c =
    let at = FieldsBelow-at _ c.args.fields.now c.loop-field.field-index c.field-item.result c.loop-field-test.true c.requires in
    let e = ap (λ (f : Field). f.shape) c.field-item.is in
    omega (arith, at, e, c.loop-field.invariant.1)

pub loop-field-preserved : goal.loop-field-preserved
loop-field-preserved c =
    let fs = c.args.fields.now in
    let i = c.loop-field.field-index in
    let f = c.field-item.result in
    let lt = c.loop-field-test.true in
    let before = c.loop-field.invariant in
    let more = c.mark_field.ensures.more in
    let e = ap (λ (f : Field). f.shape) c.field-item.is in
    let entered = entered_view c.args.entered in
    let cat = c.args.shapes.now in (
      λ limit b. let at = FieldsBelow-at limit fs i f lt b in more-trans limit _ _ _ (before.0 limit b) (more-mono (f.shape + 1) limit _ _ (omega (arith, at, e)) more),
      more.same_length ∙ before.1,
      up_to_one (FieldAsks (IsMarked c.loop-field.marks) entered cat) (FieldAsks (IsMarked c.mark_field.new.marks) entered cat) fs i f c.field-item.is lt
          (λ g h asked. more.kept g.shape (h asked)) c.mark_field.ensures.asked before.2,
      λ others among all. c.mark_field.ensures.least others (before.3 others among all)
          (subst (FieldAsks (IsMarked others) entered cat) (sym c.field-item.is) (all i f lt)),
    )
