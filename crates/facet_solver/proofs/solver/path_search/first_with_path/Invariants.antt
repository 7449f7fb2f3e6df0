use Rattle.std.proofs.Common.{◌≡◌, filter}
use Rattle.facet_solver_shape.specs.Names.{names_of}
use Rattle.facet_solver.specs.KeyPath.{has_key_at}
use Rattle.facet_solver.specs.Resolutions.{passes}
use Rattle.facet_solver.proofs.solver.path_search.first_with_path.Given as goal

-- those that have the path are among the ones that are left
abbrev pub invariant-loop-index : goal.invariant-loop-index
invariant-loop-index l = record {
  next : (goal.iterator-loop-index).can_next l.indices;
  finite : (goal.iterator-loop-index).is_finite l.indices;
  left : filter (passes (has_key_at (names_of l.path) l.key) l.schema.resolutions) l.initial.indices
      ≡ filter (passes (has_key_at (names_of l.path) l.key) l.schema.resolutions) l.indices;
}
