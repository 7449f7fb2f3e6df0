use Rattle.std.proofs.Common.{◌≡◌, drop, map}
use Rattle.facet_solver_program.specs.Document.{member_view}
use Rattle.facet_solver_program.specs.Tell.{tell}
use Rattle.facet_solver_program.proofs.tell.tell.Given as goal

-- what is still to be told makes of the solver what all members make of the first
abbrev pub invariant-loop-member : goal.invariant-loop-member
invariant-loop-member l =
    tell l.shapes (map member_view (drop l.member-index l.member-items)) l.solver
    ≡ tell l.shapes (map member_view l.member-items) l.fn.solver
