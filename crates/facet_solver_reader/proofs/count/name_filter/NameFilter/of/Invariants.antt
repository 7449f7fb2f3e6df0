use Rattle.std.proofs.Common.{◌≡◌, map, take}
use Rattle.std.specs.Int.{bit_at}
use Rattle.std.specs.List.{All}
use Rattle.facet_solver_reader.specs.Documents.{Member}
use Rattle.facet_solver_reader.specs.NameFilters.{bit_of}
use Rattle.facet_solver_reader.specs.Reading.{member_view}
use Rattle.facet_solver_reader.proofs.count.name_filter.NameFilter.of.Given as goal

-- the bit of the name of each member before this one is set
abbrev pub invariant-loop-member : goal.invariant-loop-member
invariant-loop-member l =
    All (λ (m : Member). bit_at l.bits (bit_of m.name) ≡ 1)
    (take l.member-index (map member_view l.members))
