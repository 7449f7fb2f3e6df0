use Rattle.std.proofs.Common.{◌≡◌}
use Rattle.facet_solver_shape.specs.Resolved.{key_paths_view}
use Rattle.facet_solver_shape.proofs.Resolved.{paths_of, IsFilling}
use Rattle.facet_solver_shape.proofs.resolution.tables.key_path_set.KeyPathSet.put_all.Given as goal

abbrev pub invariant-loop-path : goal.invariant-loop-path
invariant-loop-path l =
    (key_paths_view l.initial.path-iterator ≡ l.other) × IsFilling l.initial.self l.self (paths_of l.initial.path-iterator) (paths_of l.path-iterator)
