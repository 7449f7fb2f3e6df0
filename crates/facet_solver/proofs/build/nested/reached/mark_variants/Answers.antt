use Rattle.std.proofs.Common.{◌≡◌, ◌<◌, ◌+◌, ℕ, List, arith, get_or, length, subst, sym}
use Rattle.facet_solver_shape.specs.Catalogues.{FieldsBelow, VariantsBelow}
use Rattle.facet_solver_shape.specs.declared.shape.Field.{Field}
use Rattle.facet_solver_shape.specs.declared.shape.Variant.{Variant}
use Rattle.facet_solver.specs.build.Reached.{ContentReached, VariantReached, reach}
use Rattle.facet_solver.proofs.Counted.{no_fall-trans}
use Rattle.facet_solver.proofs.Marks.{up_to_one}
use Rattle.facet_solver.proofs.NestedTable.{visits_so_far}
use Rattle.facet_solver.proofs.Reached.{reached-trans, variant_kept}
use Rattle.facet_solver.proofs.Roles.{VariantsBelow-at}
use Rattle.facet_solver.proofs.build.nested.reached.mark_variants.Goals as goal

-- the fields of a variant name what those of all variants may
below : (vs : List Variant) (i : ℕ) (v : Variant) (fs : List Field) (limit : ℕ) → i < length vs → v ≡ get_or vs i v → fs ≡ v.fields.items → VariantsBelow limit vs → FieldsBelow limit fs
below vs i v fs limit lt is same b = subst (FieldsBelow limit) (sym same) (subst (λ (v : Variant). FieldsBelow limit v.fields.items) (sym is) (VariantsBelow-at limit vs i v lt b))

pub mark_content-requires-clause-below : goal.mark_content-requires-clause-below
mark_content-requires-clause-below c =
    let more = c.loop-variant.invariant.0 (length c.args.walked.now) c.requires.below in
    below c.args.variants.now c.loop-variant.variant-index c.variant-item.result c.deref.result.now (length c.loop-variant.walked) c.loop-variant-test.true c.variant-item.is c.deref.ensures.value
    (subst (λ (n : ℕ). VariantsBelow n c.args.variants.now) (sym more.walked.same_length) c.requires.below)

pub mark_content-requires-clause-structs : goal.mark_content-requires-clause-structs
mark_content-requires-clause-structs c =
    let more = c.loop-variant.invariant.0 (length c.args.walked.now) c.requires.below in
    omega (arith, more.walked.same_length, more.structs.same_length, c.requires.structs)

pub loop-variant-preserved : goal.loop-variant-preserved
loop-variant-preserved c =
    let vs = c.args.variants.now in
    let before = c.loop-variant.invariant in
    let within = λ (limit : ℕ). below vs c.loop-variant.variant-index c.variant-item.result c.deref.result.now limit c.loop-variant-test.true c.variant-item.is c.deref.ensures.value in
    let more = c.mark_content.ensures.more (length c.args.walked.now) (within (length c.args.walked.now) c.requires.below) in
    let cat = c.args.shapes.now in
    let a = reach c.loop-variant.walked c.loop-variant.structs in
    let b = reach c.mark_content.new.walked c.mark_content.new.structs in (
      λ limit h. reached-trans limit (reach c.args.walked.now c.args.structs.now) a b (before.0 limit h) (c.mark_content.ensures.more limit (within limit h)),
      up_to_one (VariantReached a cat) (VariantReached b cat) vs c.loop-variant.variant-index c.variant-item.result c.variant-item.is c.loop-variant-test.true
          (variant_kept a b more.walked.kept more.structs.kept cat)
          (subst (ContentReached b cat) c.deref.ensures.value c.mark_content.ensures.reached) before.1,
      visits_so_far vs c.loop-variant.variant-index c.variant-item.result _ _ _ c.loop-variant-test.true c.variant-item.is before.2
          (subst (λ (fs : List Field). c.mark_content.new.steps.visits ≡ c.loop-variant.steps.visits + length fs) c.deref.ensures.value c.mark_content.ensures.visits),
      no_fall-trans _ _ _ before.3 c.mark_content.ensures.no_fall,
      λ others among all. c.mark_content.ensures.least others (before.4 others among all)
          (subst (ContentReached others cat) (sym c.deref.ensures.value)
          (subst (VariantReached others cat) (sym c.variant-item.is) (all c.loop-variant.variant-index c.variant-item.result c.loop-variant-test.true))),
    )
