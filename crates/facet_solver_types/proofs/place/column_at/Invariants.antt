use Rattle.std.proofs.Common.{◌≡◌, ◌≤◌, ◌+◌, take}
use Rattle.facet_solver_types.specs.Places.{column_after}
use Rattle.facet_solver_types.proofs.place.column_at.Given as goal

abbrev pub invariant-loop-byte : goal.invariant-loop-byte
invariant-loop-byte l = (l.column ≡ column_after (take l.byte-index l.before)) × (l.column ≤ l.byte-index + 1)
