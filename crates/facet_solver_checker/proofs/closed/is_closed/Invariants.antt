use Rattle.std.proofs.Common.{All, take, ℕ}
use Rattle.facet_solver_checker.specs.Apartness.{AreTargetsApart}
use Rattle.facet_solver_checker.proofs.closed.is_closed.Given as goal

-- the pairs before this one read no value in common
abbrev pub invariant-loop-pair : goal.invariant-loop-pair
invariant-loop-pair l =
    All (λ (p : ℕ × ℕ). AreTargetsApart l.plan l.apart l.atoms p.0 p.1)
    (take l.pair-index l.pair-items)
