use Rattle.std.proofs.Common.{map, take}
use Rattle.std.specs.Fmt.{HasWritten, IsPlainFormatter}
use Rattle.std.specs.List.{flat_map}
use Rattle.std.specs.String.{string_bytes}
use Rattle.facet_solver_types.specs.Errors.{next_name}
use Rattle.facet_solver_types.proofs.error.NextNamesDisplay.fmt.Given as goal

-- those so far are written
abbrev pub invariant-loop-name : goal.invariant-loop-name
invariant-loop-name g l =
    IsPlainFormatter l.initial.f
    → HasWritten g.W.Write.write_str_gives l.initial.f (flat_map next_name (map string_bytes (take l.name-index l.name-items))) l.f
