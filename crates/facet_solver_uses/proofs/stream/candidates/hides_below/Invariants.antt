use Rattle.std.proofs.Common.{◌≡◌, drop}
use Rattle.facet_solver.specs.Names.{names_of}
use Rattle.facet_solver_uses.specs.stream.Candidates.{hides_below}
use Rattle.facet_solver_uses.proofs.stream.candidates.hides_below.Given as goal

-- the names that are left come from here to what all come to from the first shape
abbrev pub invariant-loop-name : goal.invariant-loop-name
invariant-loop-name l =
    hides_below l.shapes (names_of (drop l.name-index l.path)) l.shape
    ≡ hides_below l.shapes (names_of l.path) l.fn.first
