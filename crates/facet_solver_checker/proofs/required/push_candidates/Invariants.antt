use Rattle.std.proofs.Common.{◌≡◌, ◌⊎◌, Bor, true}
use Rattle.facet_solver_shape.specs.Names.{Name}
use Rattle.facet_solver_checker.specs.PlanMembers.{IsIn}
use Rattle.facet_solver_checker.specs.Requires.{all_require}
use Rattle.facet_solver_checker.proofs.required.push_candidates.Given as goal

-- the names that were added are required by all branches
abbrev pub invariant-loop-candidate : goal.invariant-loop-candidate
invariant-loop-candidate l =
    (x : Bor Name) → IsIn x l.names.items
    → IsIn x l.initial.names.items ⊎ (all_require l.lower x.now l.branches ≡ true)
