use Rattle.facet_solver_checker.specs.Forks.{AreSettled, Grows}
use Rattle.facet_solver_checker.proofs.places.add_pairs.Given as goal

-- each two ways before this one are settled
abbrev pub invariant-loop-second : goal.invariant-loop-second
invariant-loop-second l =
    Grows l.fn.places.items l.places.items
    × AreSettled l.tables.plan.now l.tables.apart.now l.places.items l.fork l.second
