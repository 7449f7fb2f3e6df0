use Rattle.std.proofs.Common.{◌≡◌, drop}
use Rattle.facet_solver.specs.Names.{names_of}
use Rattle.facet_solver.specs.solver.ShapeAtPath as at_path
use Rattle.facet_solver_uses.proofs.stream.candidates.shape_at_path.Given as goal

-- the names that are left lead from here to where the path leads in the resolution
abbrev pub invariant-loop-name : goal.invariant-loop-name
invariant-loop-name l =
    at_path.shape_below l.shapes (names_of (drop l.name-index l.below)) l.shape
    ≡ at_path.shape_at_path l.shapes (names_of l.path) l.resolution
