use Rattle.std.proofs.Common.{◌≡◌, ◌+◌, drop}
use Rattle.facet_solver_types.specs.Faults.{fault_place}
use Rattle.facet_solver_types.proofs.faults.fault_place.Given as goal

-- those so far stand earlier
abbrev pub invariant-loop-place : goal.invariant-loop-place
invariant-loop-place l =
    fault_place l.faults l.fault ≡ l.place + fault_place (drop l.place l.faults) l.fault
