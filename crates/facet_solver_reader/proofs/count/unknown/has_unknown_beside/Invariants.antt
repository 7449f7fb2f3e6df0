use Rattle.std.proofs.Common.{◌≡◌, map, not, false, take}
use Rattle.std.specs.List.{All}
use Rattle.facet_solver_reader.specs.Documents.{Member}
use Rattle.facet_solver_reader.specs.Known.{named}
use Rattle.facet_solver_reader.specs.Reading.{member_view}
use Rattle.facet_solver_reader.specs.Tables.{knows}
use Rattle.facet_solver_reader.proofs.count.unknown.has_unknown_beside.Given as goal

-- the list has the names of the members before this one
abbrev pub invariant-loop-member : goal.invariant-loop-member
invariant-loop-member l =
    All (λ (m : Member). not (knows l.list (named m.name)) ≡ false)
    (take l.member-index (map member_view l.member-items))
