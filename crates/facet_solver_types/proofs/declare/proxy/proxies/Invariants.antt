use Rattle.std.proofs.Common.{◌≡◌, drop, map}
use Rattle.facet_solver_types.specs.AttributeLists.{attributes_view}
use Rattle.facet_solver_types.specs.Gathered.{gathered}
use Rattle.facet_solver_types.specs.Proxies.{proxy}
use Rattle.facet_solver_types.specs.Understood.{proxy_view}
use Rattle.facet_solver_types.proofs.Listed.{before}
use Rattle.facet_solver_types.proofs.declare.proxy.proxies.Given as goal

-- those that were read, and then the others
abbrev pub invariant-loop-attribute : goal.invariant-loop-attribute
invariant-loop-attribute l =
    gathered (λ number. proxy) 0 (attributes_view l.found)
    ≡ before (map proxy_view l.proxies.items)
    (gathered (λ number. proxy) l.attribute-index
    (attributes_view (drop l.attribute-index l.found)))
