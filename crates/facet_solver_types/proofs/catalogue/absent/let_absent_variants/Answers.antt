use Rattle.std.proofs.Common.{◌<◌, ◌≤◌, ◌∙◌, ap, arith, length, map, sym}
use Rattle.std.proofs.lemmas.List.{length-map}
use Rattle.facet_solver_types.specs.AbsentMembers.{let_absent_variant}
use Rattle.facet_solver_types.specs.ShapeViews.{variant_view}
use Rattle.facet_solver_types.proofs.InPlace.{changed_all, changed_more}
use Rattle.facet_solver_types.proofs.catalogue.absent.let_absent_variants.Goals as goal

pub loop-variant-preserved : goal.loop-variant-preserved
loop-variant-preserved c =
    let l = c.loop-variant in
    let i = l.variant-index in
    let before = c.args.variants.now in
    let rule = let_absent_variant c.args.absences.now in
    let there : i < length l.variants = omega (arith, l.auto.variants, c.loop-variant-test.true) in
    let within : i < length (map variant_view before) = omega (arith, length-map before variant_view, c.loop-variant-test.true) in
    changed_more variant_view rule (map variant_view before) l.variants i c.variant-item.result c.let_absent_variant.new.variant
    within there l.invariant c.variant-item.is
    (c.let_absent_variant.ensures ∙ ap (λ x. rule (variant_view x)) (sym c.variant-item.is))

pub returns : goal.returns
returns c =
    let l = c.loop-variant in
    let before = c.args.variants.now in
    let over : length (map variant_view before) ≤ l.variant-index =
    omega (arith, length-map before variant_view, c.loop-variant-test.false) in
    l.invariant ∙ changed_all (let_absent_variant c.args.absences.now) (map variant_view before) l.variant-index over
