use Rattle.std.proofs.Common.{◌≡◌, ◌<◌, ℕ, List, get_or, length, subst, sym, ◌∙◌}
use Rattle.std.specs.Prelude.{All}
use Rattle.facet_solver_shape.specs.Catalogues.{FieldsBelow, VariantsBelow}
use Rattle.facet_solver_shape.specs.declared.shape.Field.{Field}
use Rattle.facet_solver_shape.specs.declared.shape.Variant.{Variant}
use Rattle.facet_solver.specs.build.Nested.{entered_view}
use Rattle.facet_solver.specs.build.NestedTable.{FieldAsks, IsMarked, VariantAsks}
use Rattle.facet_solver.proofs.Marks.{more-trans, up_to_one}
use Rattle.facet_solver.proofs.Roles.{VariantsBelow-at}
use Rattle.facet_solver.proofs.build.nested.marks.mark_variants.Goals as goal

-- the fields of a variant name what those of all variants may
below : (vs : List Variant) (i : ℕ) (v : Variant) (fs : List Field) (limit : ℕ) → i < length vs → v ≡ get_or vs i v → fs ≡ v.fields.items → VariantsBelow limit vs → FieldsBelow limit fs
below vs i v fs limit lt is same b = subst (FieldsBelow limit) (sym same) (subst (λ (v : Variant). FieldsBelow limit v.fields.items) (sym is) (VariantsBelow-at limit vs i v lt b))

pub mark_fields-requires : goal.mark_fields-requires
mark_fields-requires c =
    below c.args.variants.now c.loop-variant.variant-index c.variant-item.result _ (length c.loop-variant.marks) c.loop-variant-test.true c.variant-item.is c.deref.ensures.value
    (subst (λ (n : ℕ). VariantsBelow n c.args.variants.now) (sym c.loop-variant.invariant.1) c.requires)

pub loop-variant-preserved : goal.loop-variant-preserved
loop-variant-preserved c =
    let vs = c.args.variants.now in
    let before = c.loop-variant.invariant in
    let within = λ (limit : ℕ). below vs c.loop-variant.variant-index c.variant-item.result c.deref.result.now limit c.loop-variant-test.true c.variant-item.is c.deref.ensures.value in
    let more = c.mark_fields.ensures.more (length c.args.marks.now) (within (length c.args.marks.now) c.requires) in
    let entered = entered_view c.args.entered in
    let cat = c.args.shapes.now in (
      λ limit b. more-trans limit _ _ _ (before.0 limit b) (c.mark_fields.ensures.more limit (within limit b)),
      more.same_length ∙ before.1,
      up_to_one (VariantAsks (IsMarked c.loop-variant.marks) entered cat) (VariantAsks (IsMarked c.mark_fields.new.marks) entered cat) vs c.loop-variant.variant-index c.variant-item.result c.variant-item.is c.loop-variant-test.true
          (λ v h k d lt asked. more.kept (get_or v.fields.items k d).shape (h k d lt asked))
          (subst (λ (fs : List Field). All (FieldAsks (IsMarked c.mark_fields.new.marks) entered cat) fs) c.deref.ensures.value c.mark_fields.ensures.asked) before.2,
      λ others among all. c.mark_fields.ensures.least others (before.3 others among all)
          (subst (λ (fs : List Field). All (FieldAsks (IsMarked others) entered cat) fs) (sym c.deref.ensures.value)
          (subst (VariantAsks (IsMarked others) entered cat) (sym c.variant-item.is) (all c.loop-variant.variant-index c.variant-item.result c.loop-variant-test.true))),
    )
