use Rattle.std.proofs.Common.{ℕ, ◌<◌}
use Rattle.facet_solver_witnesses.specs.declared.place.Fork.TheVariants as forks
use Rattle.facet_solver_checker.specs.Forks.{AreSettled, Grows, IsPartFork}
use Rattle.facet_solver_checker.proofs.places.add_list.Given as goal

-- the selections before this part are settled
abbrev pub invariant-loop-part : goal.invariant-loop-part
invariant-loop-part l =
    Grows l.fn.places.items l.places.items
    × ((k n : ℕ) → k < l.part → IsPartFork l.parts k n
    → AreSettled l.tables.plan.now l.tables.apart.now l.places.items (forks.Selection l.list k) n)
