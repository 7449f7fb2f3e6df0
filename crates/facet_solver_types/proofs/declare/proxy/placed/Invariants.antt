use Rattle.std.proofs.Common.{◌≡◌, ◌++◌, drop, map}
use Rattle.facet_solver_types.specs.Proxies.{placed}
use Rattle.facet_solver_types.specs.Tokens.{tokens_view}
use Rattle.facet_solver_types.proofs.declare.proxy.placed.Given as goal

-- those that were moved, and the others where they will be
abbrev pub invariant-loop-token : goal.invariant-loop-token
invariant-loop-token l =
    tokens_view l.moved.items ++ map (placed l.place) (tokens_view (drop l.token-index l.found))
    ≡ map (placed l.place) (tokens_view l.found)
