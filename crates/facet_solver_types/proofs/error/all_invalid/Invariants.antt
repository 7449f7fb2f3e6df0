use Rattle.std.proofs.Common.{◌≡◌, map, take}
use Rattle.facet_solver_types.specs.Errors.{all_invalid, invalid_view}
use Rattle.facet_solver_types.proofs.error.all_invalid.Given as goal

-- those so far
abbrev pub invariant-loop-fault : goal.invariant-loop-fault
invariant-loop-fault l =
    map invalid_view l.invalid.items ≡ all_invalid l.text (take l.fault-index l.faults)
