use Rattle.std.proofs.Common.{◌≡◌, ◌⊎◌, inl, inr, ◌∷◌, ◌++◌, ◌∙◌, [], ap, arith, length, subst, sym}
use Rattle.facet_solver_shape.specs.Catalogues.{FieldsBelow}
use Rattle.facet_solver.specs.build.Build.{build_of}
use Rattle.facet_solver.specs.build.Listing.{choices_of_fields}
use Rattle.facet_solver.specs.build.Work.{work_of_fields}
use Rattle.facet_solver.specs.declared.build.contribution.Contribution.{Contribution}
use Rattle.facet_solver.specs.declared.build.contribution.Contribution.TheVariants.{CatchAlls, Emissions, Choices as ContributesChoices}
use Rattle.facet_solver.specs.declared.build.contribution.categories.Categories.{Categories}
use Rattle.facet_solver.proofs.Contributed.{field_of_one}
use Rattle.facet_solver.proofs.ChoiceParts.{without_last}
use Rattle.facet_solver.proofs.Work.{FieldsBelow-last, work_of_fields-last}
use Rattle.facet_solver.proofs.build.choices.up_to_choices.Goals as goal

-- what contributes catch-alls or other emissions alone contributes no choices
fewer : (b : Contribution) → ((a : Categories) × (b ≡ CatchAlls a)) ⊎ (b ≡ Emissions) → b ≡ ContributesChoices → ⊥
fewer b (inl e) v = let no : CatchAlls e.0 ≡ ContributesChoices = sym e.1 ∙ v in cc
fewer b (inr e) v = let no : Emissions ≡ ContributesChoices = sym e ∙ v in cc

pub loop-field-preserved : goal.loop-field-preserved
loop-field-preserved c =
    let build = build_of c.args.walker.now.build in
    let checked = c.requires.ready.checked in
    let f = c.in-Some.field.now in
    let fs = c.in-Some.before.now in
    let split : c.loop-field.kept.now ≡ fs ++ f ∷ [] = c.in-Some.ensures.cases.0 in
    let below = subst (FieldsBelow (length build.catalogue)) split c.loop-field.invariant.0 in
    let apart = FieldsBelow-last (length build.catalogue) fs f below in
    let none = field_of_one build checked c.args.walker.now.contribution.by_index.items c.requires.ready.contribution f apart.1 (λ v. fewer c.of_field.result c.in-CatchAlls.is (c.of_field.ensures ∙ v)) in
    let work = work_of_fields-last build checked fs f below in
    let whole = ap (work_of_fields build) split in (
      apart.0,
      sym (without_last build checked fs f below none) ∙ ap (choices_of_fields build) (sym split) ∙ c.loop-field.invariant.1,
      omega (arith, work, whole, c.loop-field.invariant.2),
    )
