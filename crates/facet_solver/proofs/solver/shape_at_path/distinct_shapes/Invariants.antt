use Rattle.std.proofs.Common.{◌≡◌, ◌++◌}
use Rattle.facet_solver_shape.specs.Names.{names_of}
use Rattle.facet_solver.specs.solver.ShapeAtPath.{distinct_shapes}
use Rattle.facet_solver.proofs.solver.shape_at_path.distinct_shapes.Given as goal

-- the shapes of the members so far, by the ends of the path in the catalogue
abbrev pub invariant-loop-index : goal.invariant-loop-index
invariant-loop-index l = record {
  parts : l.yielded ++ l.index-iterator ≡ l.set.members;
  catalogue : l.ends.catalogue.now ≡ l.schema.build.catalogue;
  path : l.ends.path.now ≡ l.path;
  shapes : l.shapes.items ≡ distinct_shapes (names_of l.path) l.schema l.yielded;
}
