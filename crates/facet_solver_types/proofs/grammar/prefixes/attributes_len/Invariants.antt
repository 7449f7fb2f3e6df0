use Rattle.std.proofs.Common.{◌≡◌, ◌+◌, ◌-◌, ◌≤◌, drop, length}
use Rattle.facet_solver_types.specs.Prefixes.{attributes_len}
use Rattle.facet_solver_types.specs.Tokens.{tokens_view}
use Rattle.facet_solver_types.proofs.grammar.prefixes.attributes_len.Given as goal

abbrev pub invariant-loop-len : goal.invariant-loop-len
invariant-loop-len l =
    (l.len + attributes_len l.inner (drop l.len (tokens_view l.tokens)) ≡ attributes_len l.inner (tokens_view l.tokens))
    × (l.len ≤ length l.tokens)

abbrev pub decreases-loop-len : goal.decreases-loop-len
decreases-loop-len l = length l.tokens - l.len
