use Rattle.std.proofs.Common.{◌≡◌, ◌+◌, drop}
use Rattle.facet_solver_types.specs.Starts.{path_from, path_len}
use Rattle.facet_solver_types.specs.Tokens.{tokens_view}
use Rattle.facet_solver_types.proofs.grammar.starts.path_len.Given as goal

abbrev pub invariant-loop-at : goal.invariant-loop-at
invariant-loop-at l =
    path_len l.count (tokens_view l.tokens)
    ≡ path_from l.path (l.count + l.at) (tokens_view (drop l.at l.tokens))
