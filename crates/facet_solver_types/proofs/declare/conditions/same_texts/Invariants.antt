use Rattle.std.proofs.Common.{◌≡◌, drop}
use Rattle.facet_solver_types.specs.Conditions.{same_texts}
use Rattle.facet_solver_types.specs.Tokens.{tokens_view}
use Rattle.facet_solver_types.proofs.declare.conditions.same_texts.Given as goal

-- all are the same if the rest is
abbrev pub invariant-loop-one : goal.invariant-loop-one
invariant-loop-one l =
    same_texts (tokens_view l.ones) (tokens_view l.others)
    ≡ same_texts (tokens_view (drop l.one-index l.ones)) (tokens_view l.left)
