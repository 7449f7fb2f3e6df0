use Rattle.std.proofs.Common.{◌≡◌, ◌≤◌, ◌-◌, ℕ, length}
use Rattle.facet_solver.specs.build.Starts.{starts_at}
use Rattle.facet_solver.proofs.build.starts.push_at.Given as goal

-- the entries that were added have none
abbrev pub invariant-loop-alloc : goal.invariant-loop-alloc
invariant-loop-alloc l =
    (length l.by_index.items ≤ l.index)
    × ((id : ℕ) → starts_at l.by_index.items id ≡ starts_at l.fn.by_index.items id)

abbrev pub decreases-loop-alloc : goal.decreases-loop-alloc
decreases-loop-alloc l = l.index - length l.by_index.items
