use Rattle.std.proofs.Common.{ℕ, ◌<◌}
use Rattle.facet_solver_witnesses.specs.declared.place.Fork.TheVariants as forks
use Rattle.facet_solver_checker.specs.Forks.{AreSettled, Grows, IsFork}
use Rattle.facet_solver_checker.proofs.places.add_lists.Given as goal

-- the selections of the lists before this one are settled
abbrev pub invariant-loop-list : goal.invariant-loop-list
invariant-loop-list l =
    Grows l.fn.places.items l.places.items
    × ((k part n : ℕ) → k < l.list → IsFork l.tables.plan.now (forks.Selection k part) n
    → AreSettled l.tables.plan.now l.tables.apart.now l.places.items (forks.Selection k part) n)
