use Rattle.std.proofs.Common.{◌≡◌, take}
use Rattle.std.specs.Prelude.{reverse}
use Rattle.facet_solver_json.specs.Reasons.{first_byte}
use Rattle.facet_solver_json.proofs.reason.last_before.Given as goal

abbrev pub invariant-loop-byte : goal.invariant-loop-byte
invariant-loop-byte l = l.last ≡ first_byte (reverse (take l.byte-index l.before))
