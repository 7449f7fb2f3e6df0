use Rattle.std.proofs.Common.{◌≡◌, false, take}
use Rattle.facet_solver_reader.proofs.UnknownNames.{lacks_names}
use Rattle.facet_solver_reader.proofs.count.unknown.has_unknown.Given as goal

-- the list has the names before this one
abbrev pub invariant-loop-member : goal.invariant-loop-member
invariant-loop-member l = lacks_names l.list (take l.member-index l.member-items) ≡ false
