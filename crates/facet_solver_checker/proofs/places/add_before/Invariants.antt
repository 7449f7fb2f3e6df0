use Rattle.std.proofs.Common.{ℕ, ◌<◌}
use Rattle.facet_solver_checker.specs.Forks.{Grows, IsSettled, place_at}
use Rattle.facet_solver_checker.proofs.places.add_before.Given as goal

-- the ways before this one are settled with the second
abbrev pub invariant-loop-first : goal.invariant-loop-first
invariant-loop-first l =
    Grows l.fn.places.items l.places.items
    × ((x : ℕ) → x < l.first
    → IsSettled l.tables.plan.now l.tables.apart.now l.places.items (place_at l.fork x l.second))
