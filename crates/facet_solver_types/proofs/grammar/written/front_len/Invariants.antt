use Rattle.std.proofs.Common.{◌≡◌, ◌+◌, drop}
use Rattle.facet_solver_types.specs.Tokens.{tokens_view}
use Rattle.facet_solver_types.specs.WrittenTypes.{front_len}
use Rattle.facet_solver_types.proofs.grammar.written.front_len.Given as goal

-- the tokens so far, and then those of the rest
abbrev pub invariant-loop-at : goal.invariant-loop-at
invariant-loop-at l =
    l.at + front_len (tokens_view (drop l.at l.tokens)) ≡ front_len (tokens_view l.tokens)
