use Rattle.std.proofs.Common.{◌≡◌, ◌+◌, ◌≤◌, drop}
use Rattle.facet_solver_types.specs.Runs.{run_from, run_len}
use Rattle.facet_solver_types.specs.Tokens.{tokens_view}
use Rattle.facet_solver_types.proofs.grammar.run.run_len.Given as goal

abbrev pub invariant-loop-at : goal.invariant-loop-at
invariant-loop-at l =
    (l.at + run_from l.run l.nest (tokens_view (drop l.at l.tokens)) ≡ run_len l.run (tokens_view l.tokens))
    × (l.nest.brackets ≤ l.at) × (l.nest.angles ≤ l.at)
