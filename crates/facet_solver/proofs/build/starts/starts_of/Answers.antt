use Rattle.std.proofs.Common.{◌+◌, length, subst, sym}
use Rattle.facet_solver_shape.specs.declared.shape.Variant.{Variant}
use Rattle.facet_solver_shape.specs.Catalogues.{FieldsBelow}
use Rattle.facet_solver.specs.build.Build.{build_of}
use Rattle.facet_solver.proofs.Roles.{VariantsBelow-at}
use Rattle.facet_solver.proofs.Starts.{AreFirstStarts, all_starts, counted_more, one_more_start}
use Rattle.facet_solver.proofs.build.starts.starts_of.Goals as goal

pub of_content-requires-clause-below : goal.of_content-requires-clause-below
of_content-requires-clause-below c =
    let limit = length c.args.build.shapes.now in
    let at = VariantsBelow-at limit c.args.variants.now c.loop-variant.variant-index c.variant-item.result c.loop-variant-test.true c.requires.below in
    subst (λ (v : Variant). FieldsBelow limit v.fields.items) (sym c.variant-item.is) at

pub loop-variant-preserved : goal.loop-variant-preserved
loop-variant-preserved c =
    let build = build_of c.args.build in
    let vs = c.args.variants.now in
    let i = c.loop-variant.variant-index in
    let v = c.variant-item.result in (
      subst (AreFirstStarts build vs (i + 1)) (sym c.in_ok-push.ensures.items)
          (one_more_start build vs i c.or_largest.result c.loop-variant.starts.items c.loop-variant-test.true c.loop-variant.invariant.0 (c.or_largest.ensures _ c.loop-variant.invariant.1)),
      counted_more build vs i v c.plus-before.result c.loop-variant-test.true c.variant-item.is (c.plus-before.ensures _ _ c.loop-variant.invariant.1 c.of_content.ensures),
    )

pub returns : goal.returns
returns c =
    all_starts (build_of c.args.build) c.args.variants.now c.loop-variant.variant-index c.loop-variant.starts.items c.loop-variant-test.false c.loop-variant.invariant.0
