use Rattle.std.proofs.Common.{◌≡◌, drop}
use Rattle.facet_solver_types.specs.Conditions.{condition}
use Rattle.facet_solver_types.specs.Tokens.{tokens_view}
use Rattle.facet_solver_types.proofs.declare.conditions.condition.Given as goal

-- what is sought of all is that of the rest
abbrev pub invariant-loop-at : goal.invariant-loop-at
invariant-loop-at l =
    condition (tokens_view l.attributes) ≡ condition (tokens_view (drop l.at l.attributes))
