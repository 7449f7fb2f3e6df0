use Rattle.std.proofs.Common.{◌≡◌, Some, slice_get}
use Rattle.facet_solver_reader.specs.Documents.{view}
use Rattle.facet_solver_reader.specs.Nodes.{IsNumberedSoFar, nodes_of, values_in}
use Rattle.facet_solver_reader.proofs.Sizes.{left_in}
use Rattle.facet_solver_reader.proofs.nodes.Nodes.new.Given as goal

-- the first values are opened, and the root is the first
abbrev pub invariant-loop-alloc : goal.invariant-loop-alloc
invariant-loop-alloc l = record {
  under_way : IsNumberedSoFar l.nodes;
  root : slice_get (values_in (nodes_of l.nodes)) 0 ≡ Some (view l.document);
}

abbrev pub decreases-loop-alloc : goal.decreases-loop-alloc
decreases-loop-alloc l = left_in l.nodes
