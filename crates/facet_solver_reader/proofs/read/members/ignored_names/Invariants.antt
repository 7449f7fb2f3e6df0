use Rattle.std.proofs.Common.{◌≡◌, map, take}
use Rattle.facet_solver_reader.specs.Reading.{member_view}
use Rattle.facet_solver_reader.specs.Told.{texts}
use Rattle.facet_solver_reader.specs.ToldObjects.{unknown_names}
use Rattle.facet_solver_reader.proofs.read.members.ignored_names.Given as goal

-- the unknown names of the members before this one are there
abbrev pub invariant-loop-member : goal.invariant-loop-member
invariant-loop-member l =
    texts l.names.items
    ≡ unknown_names l.object.list.now (take l.member-index (map member_view l.member-items))
