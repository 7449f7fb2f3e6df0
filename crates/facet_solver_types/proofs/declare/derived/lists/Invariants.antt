use Rattle.std.proofs.Common.{◌≡◌, drop}
use Rattle.facet_solver_types.specs.Derives.{lists}
use Rattle.facet_solver_types.specs.Tokens.{tokens_view}
use Rattle.facet_solver_types.proofs.declare.derived.lists.Given as goal

-- what is sought of all is that of the rest
abbrev pub invariant-loop-at : goal.invariant-loop-at
invariant-loop-at l =
    lists l.derive (tokens_view l.tokens) ≡ lists l.derive (tokens_view (drop l.at l.tokens))
