use Rattle.std.proofs.Common.{◌≡◌, drop, length}
use Rattle.std.specs.List.{fold}
use Rattle.facet_solver_types.specs.Faults.{told, with_fault}
use Rattle.facet_solver_types.proofs.faults.told.Given as goal

-- those so far, and then the rest
abbrev pub invariant-loop-fault : goal.invariant-loop-fault
invariant-loop-fault l =
    told l.fn.faults.items ≡ fold with_fault l.found.items (drop (length l.yielded) l.fn.faults.items)
