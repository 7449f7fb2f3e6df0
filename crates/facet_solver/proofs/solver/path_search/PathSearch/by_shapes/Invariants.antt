use Rattle.std.proofs.Common.{◌≡◌, ◌++◌, map}
use Rattle.facet_solver_shape.specs.Names.{names_of}
use Rattle.facet_solver.specs.solver.KeyResult.{scored_view}
use Rattle.facet_solver.specs.solver.Probe.{scored_at, shapes_on_path}
use Rattle.facet_solver.proofs.solver.path_search.PathSearch.by_shapes.Given as goal

-- the shapes of the members so far, and the fields with their scores, by the ends of the path in
-- the catalogue
abbrev pub invariant-loop-index : goal.invariant-loop-index
invariant-loop-index l = record {
  parts : l.yielded ++ l.index-iterator ≡ l.set.members;
  catalogue : l.ends.catalogue.now ≡ l.self.schema.now.build.catalogue;
  path : l.ends.path.now ≡ l.self.path.now.items;
  shapes : l.shapes.items ≡ shapes_on_path (names_of l.self.path.now.items) l.self.schema.now l.yielded;
  fields : map scored_view l.fields.items ≡ scored_at (names_of l.self.path.now.items) l.self.schema.now l.yielded;
}
