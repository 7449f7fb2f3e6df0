use Rattle.std.proofs.Common.{◌≡◌}
use Rattle.facet_solver_shape.specs.Names.{names_of}
use Rattle.facet_solver.specs.build.Draft.{paths_of}
use Rattle.facet_solver.specs.build.Nested.{with_key_paths}
use Rattle.facet_solver.proofs.build.draft.add_paths_of.Given as goal

-- with the key paths of the names that are left, it has those of all
abbrev pub invariant-loop-name : goal.invariant-loop-name
invariant-loop-name l =
    with_key_paths l.resolution (paths_of (names_of l.names.items))
    ≡ with_key_paths l.fn.resolution (paths_of (names_of l.fn.names.items))

abbrev pub decreases-loop-name : goal.decreases-loop-name
decreases-loop-name l = goal.left-loop-name l
