use Rattle.std.proofs.Common.{◌≡◌, drop}
use Rattle.facet_solver_shape.specs.Names.{names_of}
use Rattle.facet_solver.specs.solver.ShapeAtPath as at_path
use Rattle.facet_solver.proofs.solver.shape_at_path.shape_below.Given as goal

-- the names that are left lead from here to where all lead from the first shape
abbrev pub invariant-loop-name : goal.invariant-loop-name
invariant-loop-name l =
    at_path.shape_below l.catalogue (names_of (drop l.name-index l.path)) l.shape
    ≡ at_path.shape_below l.catalogue (names_of l.path) l.fn.first
