use Rattle.std.proofs.Common.{ℕ, List, ◌++◌}
use Rattle.facet_solver_uses.specs.AmbiguousPairs.{ListsPairs, pairs_with}
use Rattle.facet_solver_uses.proofs.ambiguous_pairs.add_pairs_with.Given as goal

-- the pairs with the resolutions so far stand behind the others
abbrev pub invariant-loop-first : goal.invariant-loop-first
invariant-loop-first l = (all : List (ℕ × ℕ))
    → ListsPairs l.schema all l.fn.pairs.items
    → ListsPairs l.schema (all ++ pairs_with l.second l.first) l.pairs.items
