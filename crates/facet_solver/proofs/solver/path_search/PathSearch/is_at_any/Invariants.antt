use Rattle.std.proofs.Common.{◌≡◌}
use Rattle.std.specs.List.{list_any}
use Rattle.facet_solver_shape.specs.Names.{names_of}
use Rattle.facet_solver.specs.KeyPath.{has_key_path}
use Rattle.facet_solver.specs.Resolutions.{passes}
use Rattle.facet_solver.proofs.solver.path_search.PathSearch.is_at_any.Given as goal

-- one that has the path is among those that are left
abbrev pub invariant-loop-index : goal.invariant-loop-index
invariant-loop-index l = record {
  next : (goal.iterator-loop-index).can_next l.indices;
  finite : (goal.iterator-loop-index).is_finite l.indices;
  left : list_any (passes (has_key_path (names_of l.self.path.now.items)) l.self.schema.now.resolutions) l.initial.indices
      ≡ list_any (passes (has_key_path (names_of l.self.path.now.items)) l.self.schema.now.resolutions) l.indices;
}
