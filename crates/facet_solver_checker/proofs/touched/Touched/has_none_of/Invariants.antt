use Rattle.std.proofs.Common.{All, take}
use Rattle.std.proofs.Common.{◌≡◌, false, ℕ}
use Rattle.facet_solver_checker.specs.Touched.{is_touched}
use Rattle.facet_solver_checker.proofs.touched.Touched.has_none_of.Given as goal

-- those before this one are none
abbrev pub invariant-loop-list : goal.invariant-loop-list
invariant-loop-list l =
    All (λ (n : ℕ). is_touched l.self.flags.items n ≡ false) (take l.list-index l.lists)
