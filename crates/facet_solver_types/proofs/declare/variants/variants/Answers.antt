use Rattle.std.proofs.Common.{◌∙◌, ap, refl}
use Rattle.facet_solver_types.specs.Declarations as items
use Rattle.facet_solver_types.specs.ReadVariants.{variant}
use Rattle.facet_solver_types.specs.Understood.{variant_view}
use Rattle.facet_solver_types.proofs.GatheringTurns.{gathering_turn}
use Rattle.facet_solver_types.proofs.declare.variants.variants.Goals as goal

pub loop-one-preserved : goal.loop-one-preserved
loop-one-preserved c =
    let l = c.loop-one in
    let all = c.args.all in
    l.invariant
    ∙ gathering_turn items.variant_view variant_view c.args.written.now l.one-index
    c.one-item.result c.loop-one-test.true (λ found. variant all) l.found c.in_ok-more.more
    c.append.new.self l.found.values.items refl
    (c.in_ok-more.ensures ∙ ap (λ x. variant all (items.variant_view x)) c.one-item.is)
    c.in_ok-append.ensures.values c.in_ok-append.ensures.faults
