use Rattle.std.proofs.Common.{◌≡◌}
use Rattle.std.specs.List.{list_any}
use Rattle.facet_solver_shape.specs.Names.{names_of}
use Rattle.facet_solver_shape.specs.Paths.{key_path_eq}
use Rattle.facet_solver_shape.specs.Resolved.{key_paths_view}
use Rattle.facet_solver_shape.proofs.Resolved.{paths_of}
use Rattle.facet_solver.specs.KeyPath.{whole_path}
use Rattle.facet_solver.proofs.key_path.known_path.Given as goal

-- the path is known if it is among those that are left
abbrev pub invariant-loop-known : goal.invariant-loop-known
invariant-loop-known l =
    (key_paths_view l.initial.known-iterator ≡ l.resolution.key_paths)
    × (list_any (key_path_eq (whole_path (names_of l.path) l.key)) (paths_of l.initial.known-iterator)
    ≡ list_any (key_path_eq (whole_path (names_of l.path) l.key)) (paths_of l.known-iterator))
