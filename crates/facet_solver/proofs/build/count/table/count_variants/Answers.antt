use Rattle.std.proofs.Common.{◌≡◌, ◌+◌, ◌≤◌, ◌∙◌, ℕ, List, arith, false, length, sym, subst, true}
use Rattle.std.proofs.lemmas.List.{take_all}
use Rattle.std.proofs.lemmas.List.Sums.{sum_by_more}
use Rattle.facet_solver_shape.specs.declared.shape.Variant.{Variant}
use Rattle.facet_solver_shape.specs.Catalogues.{FieldsBelow}
use Rattle.facet_solver_shape.specs.Steps.{NoCountFalls}
use Rattle.facet_solver.specs.build.Count.{count_variant, count_fields, count_variants}
use Rattle.facet_solver.specs.build.Counts.{CountsTo}
use Rattle.facet_solver.specs.build.Build.{build_of}
use Rattle.facet_solver.proofs.Counted.{no_fall-refl, no_fall-trans}
use Rattle.facet_solver.proofs.Roles.{VariantsBelow-at}
use Rattle.facet_solver.proofs.NestedTable.{visits_more, visits_so_far}
use Rattle.facet_solver.proofs.Count.{walked_counted, unwalked_counted}
use Rattle.facet_solver.proofs.build.count.table.count_variants.Goals as goal
use Rattle.facet_solver.proofs.build.count.table.count_variants.Goals.{then-walked, else-walked}

pub count_content-choices-requires-clause-below : goal.count_content-choices-requires-clause-below
count_content-choices-requires-clause-below c =
    let at = VariantsBelow-at (length c.args.counts.now) c.args.variants.now c.loop-variant.variant-index c.variant-item.result c.loop-variant-test.true c.requires.below in
    subst (λ (v : Variant). FieldsBelow (length c.args.counts.now) v.fields.items) (sym c.variant-item.is) at

-- what the next summand tells
next : (c : goal.After-plus-sum) → CountsTo c.if-walked.choices (count_variant (count_fields (build_of c.args.build)) c.args.build.shapes.now c.args.walked c.variant-item.result)
next c =
    let build = build_of c.args.build in
    elim c.if-walked.branch [
      | then-walked w ↦ rw w.choices-is (walked_counted build c.args.walked c.variant-item.result _ w.if-walked.true w.count_content-choices.ensures.content)
      | else-walked w ↦ rw w.choices-is (unwalked_counted build c.args.walked c.variant-item.result w.if-walked.false)
    ]

-- and how many fields it visited
next_visits : (c : goal.After-plus-sum) → c.if-walked.steps.visits ≤ c.loop-variant.steps.visits + length c.variant-item.result.fields.items
next_visits c =
    elim c.if-walked.branch [
      | then-walked w ↦ rw w.steps-is (omega (arith, w.count_content-choices.ensures.visits))
      | else-walked w ↦ rw w.steps-is (omega arith)
    ]

-- all of them, where its content is walked
next_visited : (c : goal.After-plus-sum) → c.args.walked ≡ true → c.if-walked.steps.visits ≡ c.loop-variant.steps.visits + length c.variant-item.result.fields.items
next_visited c is =
    elim c.if-walked.branch [
      | then-walked w ↦ rw w.steps-is w.count_content-choices.ensures.visits
      | else-walked w ↦ (let not : false ≡ true = sym w.if-walked.false ∙ is in cc)
    ]

next_no_fall : (c : goal.After-plus-sum) → NoCountFalls c.loop-variant.steps c.if-walked.steps
next_no_fall c =
    elim c.if-walked.branch [
      | then-walked w ↦ rw w.steps-is w.count_content-choices.ensures.no_fall
      | else-walked w ↦ rw w.steps-is (no_fall-refl c.loop-variant.steps)
    ]

pub loop-variant-preserved : goal.loop-variant-preserved
loop-variant-preserved c =
    let cat = c.args.build.shapes.now in
    let count = count_variant (count_fields (build_of c.args.build)) cat c.args.walked in
    let one_more = sum_by_more count c.args.variants.now c.loop-variant.variant-index c.variant-item.result c.loop-variant-test.true in
    let summand = subst (λ (v : Variant). CountsTo c.if-walked.choices (count v)) c.variant-item.is (next c) in
    let counted = subst (λ (n : ℕ). CountsTo c.plus-sum.result n) (sym one_more) (c.plus-sum.ensures _ _ c.loop-variant.invariant.0 summand) in
    let visits = visits_more c.args.variants.now c.loop-variant.variant-index c.variant-item.result _ _ _ c.loop-variant-test.true c.variant-item.is c.loop-variant.invariant.1 (next_visits c) in (
      counted,
      visits,
      no_fall-trans _ _ _ c.loop-variant.invariant.2 (next_no_fall c),
      λ is. visits_so_far c.args.variants.now c.loop-variant.variant-index c.variant-item.result _ _ _ c.loop-variant-test.true c.variant-item.is (c.loop-variant.invariant.3 is) (next_visited c is),
    )

pub returns-clause-sum : goal.returns-clause-sum
returns-clause-sum c =
    let build = build_of c.args.build in
    subst (λ (vs : List Variant). CountsTo c.loop-variant.sum (count_variants build c.args.walked vs)) (take_all c.loop-variant.variant-index c.args.variants.now c.loop-variant-test.false) c.loop-variant.invariant.0
