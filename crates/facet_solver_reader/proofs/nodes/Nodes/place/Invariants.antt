use Rattle.std.proofs.Common.{◌≡◌, ◌<◌, map, reverse, Some}
use Rattle.facet_solver_reader.specs.Places.{at, step_of}
use Rattle.facet_solver_reader.specs.Nodes.{count, value_of}
use Rattle.facet_solver_reader.proofs.nodes.Nodes.place.Given as goal

-- the segments so far lead from the value that is come to
abbrev pub invariant-loop-inner : goal.invariant-loop-inner
invariant-loop-inner l = record {
  within : l.inner < count l.self;
  leads : at (value_of l.self l.inner) (map step_of (reverse l.segments.items)) ≡ Some (value_of l.self l.node);
}

abbrev pub decreases-loop-inner : goal.decreases-loop-inner
decreases-loop-inner l = l.inner
