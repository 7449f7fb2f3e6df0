use Rattle.std.proofs.Common.{ℕ, ◌<◌}
use Rattle.facet_solver_witnesses.specs.declared.place.Fork.TheVariants as forks
use Rattle.facet_solver_checker.specs.Forks.{AreSettled, Grows, IsFork}
use Rattle.facet_solver_checker.proofs.places.add_enums.Given as goal

-- the enums before this target are settled
abbrev pub invariant-loop-target : goal.invariant-loop-target
invariant-loop-target l =
    Grows l.fn.places.items l.places.items
    × ((k n : ℕ) → k < l.target → IsFork l.tables.plan.now (forks.Enum k) n
    → AreSettled l.tables.plan.now l.tables.apart.now l.places.items (forks.Enum k) n)
