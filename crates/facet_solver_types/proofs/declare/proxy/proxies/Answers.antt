use Rattle.std.proofs.Common.{◌∙◌}
use Rattle.facet_solver_types.specs.Attributes.{attribute_view}
use Rattle.facet_solver_types.specs.Proxies.{proxy}
use Rattle.facet_solver_types.specs.Understood.{proxy_view}
use Rattle.facet_solver_types.proofs.GatherTurns.{gather_turn}
use Rattle.facet_solver_types.proofs.declare.proxy.proxies.Goals as goal

pub loop-attribute-preserved : goal.loop-attribute-preserved
loop-attribute-preserved c =
    let l = c.loop-attribute in
    l.invariant
    ∙ gather_turn (λ number. proxy) attribute_view c.args.found.now l.attribute-index _
    c.loop-attribute-test.true proxy_view l.proxies.items c.add.new.found.items
    c.in_ok-proxy.field-0 c.in_ok-proxy.ensures c.in_ok-add.ensures
