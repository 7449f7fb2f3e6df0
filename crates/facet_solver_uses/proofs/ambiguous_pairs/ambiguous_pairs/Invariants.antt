use Rattle.facet_solver_uses.specs.AmbiguousPairs.{ListsPairs, pairs_below}
use Rattle.facet_solver_uses.proofs.ambiguous_pairs.ambiguous_pairs.Given as goal

-- the pairs of the resolutions so far
abbrev pub invariant-loop-second : goal.invariant-loop-second
invariant-loop-second l = ListsPairs l.schema (pairs_below l.second) l.pairs.items
