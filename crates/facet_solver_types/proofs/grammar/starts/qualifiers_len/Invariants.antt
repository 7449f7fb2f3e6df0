use Rattle.std.proofs.Common.{◌≡◌, ◌+◌, drop}
use Rattle.facet_solver_types.specs.Starts.{qualifiers_len}
use Rattle.facet_solver_types.specs.Tokens.{tokens_view}
use Rattle.facet_solver_types.proofs.grammar.starts.qualifiers_len.Given as goal

-- the tokens so far, and then those of the rest
abbrev pub invariant-loop-at : goal.invariant-loop-at
invariant-loop-at l =
    l.at + qualifiers_len (tokens_view (drop l.at l.tokens)) ≡ qualifiers_len (tokens_view l.tokens)
