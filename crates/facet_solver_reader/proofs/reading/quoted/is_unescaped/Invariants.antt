use Rattle.std.proofs.Common.{◌≡◌, take}
use Rattle.facet_solver_reader.specs.Quoted.{is_unescaped}
use Rattle.facet_solver_reader.proofs.reading.quoted.is_unescaped.Given as goal

-- whether the bytes so far are plain
abbrev pub invariant-loop-byte : goal.invariant-loop-byte
invariant-loop-byte l = l.is_unescaped ≡ is_unescaped (take l.byte-index l.byte-items)
