use Rattle.std.proofs.Common.{◌≡◌, drop, map}
use Rattle.facet_solver_types.specs.FieldTypes.{all_agree}
use Rattle.facet_solver_types.specs.Scopes.{scope_view}
use Rattle.facet_solver_types.specs.Understood.{proxy_view}
use Rattle.facet_solver_types.proofs.typing.field_types.all_agree.Given as goal

-- what is so of all is so of the rest
abbrev pub invariant-loop-proxy : goal.invariant-loop-proxy
invariant-loop-proxy l =
    all_agree (scope_view l.scope) l.id (map proxy_view l.proxies)
    ≡ all_agree (scope_view l.scope) l.id (map proxy_view (drop l.proxy-index l.proxies))
