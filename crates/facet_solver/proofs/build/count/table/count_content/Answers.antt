use Rattle.std.proofs.Common.{◌≡◌, ◌∷◌, [], ◌∙◌, List, Some, ap, arith, length, slice_get, subst, sym}
use Rattle.facet_solver_shape.specs.declared.shape.Field.{Field}
use Rattle.facet_solver_shape.specs.Catalogues.{FieldsBelow}
use Rattle.facet_solver.specs.build.Content.{IsNewtypeOf}
use Rattle.facet_solver.specs.build.Build.{build_of}
use Rattle.facet_solver.proofs.Counted.{visited}
use Rattle.facet_solver.proofs.Count.{newtype_counted, only_field_counted}
use Rattle.facet_solver.proofs.NestedTable.{one_item}
use Rattle.facet_solver.proofs.build.count.table.count_content.Goals as goal

-- the only field of a variant, read from a slice of its fields
only : (fs gs : List Field) (f : Field) → gs ≡ fs → length gs ≡ 1 → slice_get gs 0 ≡ Some f → fs ≡ f ∷ []
only fs gs f same one at = sym same ∙ one_item gs f one at

pub count_field-requires-clause-below : goal.count_field-requires-clause-below
count_field-requires-clause-below c =
    let is = only c.args.variant.now.fields.items c.as_slice-fields.result.now c.visited-field.result.now c.as_slice-fields.ensures.value c.if-fields-ne1.false c.visited-field.ensures.field in
    let below = subst (FieldsBelow (length c.args.counts.now)) is c.requires.below in
    below.0

pub bounds-counts-index : goal.bounds-counts-index
bounds-counts-index c =
    let is = only c.args.variant.now.fields.items c.as_slice-fields.result.now c.visited-field.result.now c.as_slice-fields.ensures.value c.if-fields-ne1.false c.visited-field.ensures.field in
    let newtype : IsNewtypeOf c.args.build.shapes.now (c.visited-field.result.now ∷ []) c.in-Some.id = c.in-Some.ensures in
    let at = newtype.earlier (length c.args.counts.now) (subst (FieldsBelow (length c.args.counts.now)) is c.requires.below) in
    rw c.index.ensures at

pub offset_bounds-counts-index : goal.offset_bounds-counts-index
offset_bounds-counts-index c =
    let is = only c.args.variant.now.fields.items c.as_slice-fields.result.now c.visited-field.result.now c.as_slice-fields.ensures.value c.if-fields-ne1.false c.visited-field.ensures.field in
    let newtype : IsNewtypeOf c.args.build.shapes.now (c.visited-field.result.now ∷ []) c.in-Some.id = c.in-Some.ensures in
    let at = newtype.earlier (length c.args.counts.now) (subst (FieldsBelow (length c.args.counts.now)) is c.requires.below) in
    omega (arith, at, c.index.ensures)

pub returns-in-Some : goal.returns-in-Some
returns-in-Some c =
    let cat = c.args.build.shapes.now in
    let v = c.args.variant.now in
    let is = only v.fields.items c.as_slice-fields.result.now c.visited-field.result.now c.as_slice-fields.ensures.value c.if-fields-ne1.false c.visited-field.ensures.field in
    let newtype = subst (λ (fs : List Field). IsNewtypeOf cat fs c.in-Some.id) (sym is) c.in-Some.ensures in
    let one = ap length is in
    let visits = ap (λ s. s.visits) c.visited-field.ensures.steps in record {
      content = rw c.index.ensures (newtype_counted (build_of c.args.build) c.args.counts.now v c.in-Some.id _ c.requires.counted c.requires.below newtype);
      visits = omega (arith, one, visits);
      no_fall = visited _ _ c.visited-field.ensures.steps;
    }

pub returns-in-None-clause-content : goal.returns-in-None-clause-content
returns-in-None-clause-content c =
    let v = c.args.variant.now in
    let f = c.visited-field.result.now in
    let is = only v.fields.items c.as_slice-fields.result.now f c.as_slice-fields.ensures.value c.if-fields-ne1.false c.visited-field.ensures.field in
    let below = subst (FieldsBelow (length c.args.counts.now)) is c.requires.below in
    only_field_counted (build_of c.args.build) c.requires.checked v f c.count_field.result is c.in-None.ensures (omega (arith, below.0, c.requires.counted.within)) c.count_field.ensures
