use Rattle.std.proofs.Common.{◌≡◌, ◌+◌, ◌/◌, ◌∷◌, ◌++◌, ◌∙◌, [], ap, arith, length, refl, subst, sym}
use Rattle.std.proofs.lemmas.Result.{on_ok_weaker}
use Rattle.facet_solver_shape.specs.Catalogues.{FieldsBelow}
use Rattle.facet_solver.specs.build.Build.{build_of}
use Rattle.facet_solver.specs.build.ChoiceParts.{IsRank, choice_at}
use Rattle.facet_solver.specs.build.Listing.{Choices, choices_of_fields}
use Rattle.facet_solver.specs.build.Work.{work_of_field, work_of_fields}
use Rattle.facet_solver.specs.declared.build.choices.Part.TheVariants.{Fields}
use Rattle.facet_solver.proofs.ChoiceParts.{adds-none, adds-one, adds-then, as_many, last_ranks, no_fields}
use Rattle.facet_solver.proofs.Work.{last_below, work_of_fields-last}
use Rattle.facet_solver.proofs.build.choices.push_fields.Goals as goal

pub of_field-requires-clause-below : goal.of_field-requires-clause-below
of_field-requires-clause-below c =
    (last_below (length c.args.walker.now.build.shapes.now) c.up_to_choices.result.now c.in-Some.before.now c.in-Some.field.now c.in-Some.ensures.cases.0 c.up_to_choices.ensures.below).1

pub nonzero_div-rank : goal.nonzero_div-rank
nonzero_div-rank c =
    (last_ranks (build_of c.args.walker.now.build) c.requires.ready.checked c.args.fields.now c.up_to_choices.result.now c.in-Some.before.now c.in-Some.field.now c.args.rank _ _ c.up_to_choices.ensures.choices c.requires.rank c.in-Some.ensures.cases.0 c.up_to_choices.ensures.below c.of_field.ensures c.or_largest-count.ensures).some

pub nonzero_rem-rank : goal.nonzero_rem-rank
nonzero_rem-rank c =
    (last_ranks (build_of c.args.walker.now.build) c.requires.ready.checked c.args.fields.now c.up_to_choices.result.now c.in-Some.before.now c.in-Some.field.now c.args.rank _ _ c.up_to_choices.ensures.choices c.requires.rank c.in-Some.ensures.cases.0 c.up_to_choices.ensures.below c.of_field.ensures c.or_largest-count.ensures).some

pub push_field-requires-clause-below : goal.push_field-requires-clause-below
push_field-requires-clause-below c =
    (last_below (length c.args.walker.now.build.shapes.now) c.up_to_choices.result.now c.in-Some.before.now c.in-Some.field.now c.in-Some.ensures.cases.0 c.up_to_choices.ensures.below).1

pub push_field-requires-clause-rank : goal.push_field-requires-clause-rank
push_field-requires-clause-rank c =
    (last_ranks (build_of c.args.walker.now.build) c.requires.ready.checked c.args.fields.now c.up_to_choices.result.now c.in-Some.before.now c.in-Some.field.now c.args.rank _ _ c.up_to_choices.ensures.choices c.requires.rank c.in-Some.ensures.cases.0 c.up_to_choices.ensures.below c.of_field.ensures c.or_largest-count.ensures).last

pub returns-in_ok-push-in-Some : goal.returns-in_ok-push-in-Some
returns-in_ok-push-in-Some c =
    let build = build_of c.args.walker.now.build in
    let checked = c.requires.ready.checked in
    let fs = c.in-Some.before.now in
    let f = c.in-Some.field.now in
    let k = c.args.rank in
    let n = c.or_largest-count.result in
    let ranks = last_ranks (build_of c.args.walker.now.build) c.requires.ready.checked c.args.fields.now c.up_to_choices.result.now c.in-Some.before.now c.in-Some.field.now c.args.rank _ _ c.up_to_choices.ensures.choices c.requires.rank c.in-Some.ensures.cases.0 c.up_to_choices.ensures.below c.of_field.ensures c.or_largest-count.ensures in
    let split : c.up_to_choices.result.now ≡ fs ++ f ∷ [] = c.in-Some.ensures.cases.0 in
    let choice = ap (λ (cs : Choices). choice_at cs k) (sym c.up_to_choices.ensures.choices ∙ ap (choices_of_fields build) split) ∙ ranks.choice in
    let below = last_below (length c.args.walker.now.build.shapes.now) c.up_to_choices.result.now c.in-Some.before.now c.in-Some.field.now c.in-Some.ensures.cases.0 c.up_to_choices.ensures.below in
    let last = work_of_fields-last build checked fs f (subst (FieldsBelow (length build.catalogue)) split c.up_to_choices.ensures.below) in
    let whole = ap (work_of_fields build) split in
    on_ok_weaker c.push_field.result
    (λ h.
    adds-then build _ _ _ (choice_at (choices_of_fields build fs) (k / n)) _ _ (1 + work_of_fields build fs) (work_of_field build f) _ choice (omega (arith, last, whole, c.up_to_choices.ensures.work))
    (adds-one build _ _ (Fields c.in-Some.before (k / n)) _ _ c.in_ok-push-in-Some.ensures.items (below.0, ranks.before) refl (omega arith)) h)
    c.push_field.ensures

pub returns-in-None : goal.returns-in-None
returns-in-None c =
    let build = build_of c.args.walker.now.build in
    let checked = c.requires.ready.checked in
    let kept = c.up_to_choices.result.now in
    let same = c.up_to_choices.ensures.choices in
    let rank = subst (IsRank c.args.rank) (sym (as_many build checked kept c.args.fields.now same)) c.requires.rank in
    adds-none build _ _ _ _ refl (ap (λ (cs : Choices). choice_at cs c.args.rank) (sym same) ∙ no_fields build checked kept c.args.rank c.in-None.ensures.cases rank)
