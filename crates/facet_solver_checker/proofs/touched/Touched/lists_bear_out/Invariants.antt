use Rattle.std.proofs.Common.{◌≡◌, ◌<◌, Some, slice_get, ℕ}
use Rattle.facet_solver_reader.specs.declared.plan.PlannedList.{PlannedList}
use Rattle.facet_solver_checker.specs.Touched.{BearsOutList}
use Rattle.facet_solver_checker.proofs.touched.Touched.lists_bear_out.Given as goal

-- those before this one bear out
abbrev pub invariant-loop-number : goal.invariant-loop-number
invariant-loop-number l =
    (k : ℕ) → k < l.number → (x : PlannedList) → slice_get l.lists k ≡ Some x
    → BearsOutList l.self.flags.items k x.parts.items
