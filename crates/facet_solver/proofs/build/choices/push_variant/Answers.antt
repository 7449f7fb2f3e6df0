use Rattle.std.proofs.Common.{◌+◌, ◌∷◌, ◌∙◌, [], Bool, ap, arith, refl, sym}
use Rattle.facet_solver.specs.build.Build.{build_of}
use Rattle.facet_solver.specs.build.ChoiceParts.{choice_at}
use Rattle.facet_solver.specs.build.Listing.{choices_of_fields, choices_of_variants}
use Rattle.facet_solver.specs.build.Work.{work_of_fields}
use Rattle.facet_solver.specs.declared.build.choices.Part.TheVariants.{Fields, Index}
use Rattle.facet_solver.proofs.ChoiceParts.{adds-one, adds-then, at_index, variants_work}
use Rattle.facet_solver.proofs.build.choices.push_variant.Goals as goal

pub returns-then-not-walked : goal.returns-then-not-walked
returns-then-not-walked c =
    let build = build_of c.args.walker.now.build in
    let vs = c.args.variants.now in
    adds-one build c.args.parts.now.items c.push.new.self.items (Index c.args.rank) _ _ c.in_ok-push.ensures.items tt
    (sym (at_index build vs c.args.rank c.args.walked c.if-not-walked.true c.requires.rank))
    (variants_work build c.args.walked vs c.args.rank c.requires.rank)

pub variant_at-index-requires-clause-starts : goal.variant_at-index-requires-clause-starts
variant_at-index-requires-clause-starts c = c.requires.starts c.if-not-walked.false

pub returns : goal.returns
returns c =
    let build = build_of c.args.walker.now.build in
    let found = c.variant_at-index.result in
    let fs = found.1.now in
    let ensures = c.variant_at-index.ensures in
    let choice = ap (λ (walked : Bool). choice_at (choices_of_variants build walked c.args.variants.now) c.args.rank) c.if-not-walked.false ∙ ensures.choice in
    let work = ensures.work in
    adds-then build c.args.parts.now.items c.push-2.new.self.items c.push-3.new.self.items (found.0 ∷ []) (choice_at (choices_of_fields build fs) found.2) _ 1 (1 + work_of_fields build fs) _ choice (omega (arith, work))
    (adds-one build _ _ (Index found.0) _ 1 c.in_ok-push-2.ensures.items tt refl (omega arith))
    (adds-one build _ _ (Fields found.1 found.2) _ _ c.in_ok-push-3.ensures.items (ensures.below, ensures.rank) refl (omega arith))
