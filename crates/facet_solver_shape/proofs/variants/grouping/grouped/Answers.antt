use Rattle.std.proofs.Common.{◌≡◌, ◌∷◌, [], take, ap, ◌∙◌}
use Rattle.std.proofs.lemmas.List.{take_all}
use Rattle.facet_solver_shape.specs.Groups.{groups_of, joined}
use Rattle.facet_solver_shape.proofs.Groups.{groups_of-IsPartition, groups_of-more}
use Rattle.facet_solver_shape.proofs.variants.grouping.grouped.Goals as goal

pub loop-variant-preserved : goal.loop-variant-preserved
loop-variant-preserved c =
    c.in_ok-add.ensures
    ∙ ap (λ g. joined g (groups_of c.args.shapes.now (c.variant-item.result ∷ []))) c.loop-variant.invariant
    ∙ groups_of-more c.args.shapes.now c.args.variants.now c.loop-variant.variant-index c.variant-item.result c.loop-variant-test.true c.variant-item.is

pub returns-clause-partition : goal.returns-clause-partition
returns-clause-partition c =
    let whole : take c.loop-variant.variant-index c.args.variants.now ≡ c.args.variants.now = take_all _ _ c.loop-variant-test.false in
    rw (c.loop-variant.invariant, whole) (groups_of-IsPartition c.args.shapes.now c.args.variants.now)
