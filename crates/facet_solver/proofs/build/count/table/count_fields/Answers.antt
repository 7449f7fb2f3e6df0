use Rattle.std.proofs.Common.{◌<◌, ℕ, length, sym, subst, refl, ap, arith}
use Rattle.std.proofs.lemmas.Option.{get_or_from_slice_get}
use Rattle.facet_solver_shape.specs.declared.shape.Field.{Field}
use Rattle.facet_solver.specs.build.Count.{count_fields_step, count_fields, count_field}
use Rattle.facet_solver.specs.build.Counts.{CountsTo}
use Rattle.facet_solver.specs.build.Build.{build_of}
use Rattle.facet_solver.proofs.Roles.{FieldsBelow-at}
use Rattle.facet_solver.proofs.Counted.{no_fall-refl, no_fall-trans, visited}
use Rattle.facet_solver.proofs.Count.{count_fields_step-more, count_fields_step-all}
use Rattle.facet_solver.proofs.build.count.table.count_fields.Goals as goal

pub count_field-requires-clause-below : goal.count_field-requires-clause-below
count_field-requires-clause-below c =
    let fs = c.args.fields.now in
    let f = c.visited-field.result.now in
    let is = get_or_from_slice_get fs c.loop-index.index f f c.visited-field.ensures.field in
    subst (λ (f : Field). f.shape < length c.args.counts.now) is (FieldsBelow-at (length c.args.counts.now) fs c.loop-index.index f c.loop-index-test.true c.requires.below)

pub loop-index-init : goal.loop-index-init
unfolding count_fields_step
loop-index-init c = (refl, omega arith, no_fall-refl c.args.steps.now)

pub loop-index-preserved : goal.loop-index-preserved
loop-index-preserved c =
    let build = build_of c.args.build in
    let fs = c.args.fields.now in
    let i = c.loop-index.index in
    let f = c.visited-field.result.now in
    let is = get_or_from_slice_get fs i f f c.visited-field.ensures.field in
    let one_more = count_fields_step-more build (count_fields build) fs i f c.loop-index-test.true in
    let factor = subst (λ (f : Field). CountsTo c.count_field.result (count_field build f)) (sym is) c.count_field.ensures in
    let visits = ap (λ s. s.visits) c.visited-field.ensures.steps in (
      subst (λ (n : ℕ). CountsTo c.times-product.result n) (sym one_more) (c.times-product.ensures _ _ c.loop-index.invariant.0 factor),
      omega (arith, visits, c.loop-index.invariant.1),
      no_fall-trans _ _ _ c.loop-index.invariant.2 (visited _ _ c.visited-field.ensures.steps),
    )

pub returns-clause-product : goal.returns-clause-product
returns-clause-product c =
    let build = build_of c.args.build in
    subst (λ (n : ℕ). CountsTo c.loop-index.product n) (count_fields_step-all build c.args.counts.now c.args.fields.now c.loop-index.index c.requires.checked c.requires.counted c.requires.below c.loop-index-test.false) c.loop-index.invariant.0
