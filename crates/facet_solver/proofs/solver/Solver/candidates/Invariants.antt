use Rattle.std.proofs.Common.{◌≡◌, ◌++◌, All, map}
use Rattle.facet_solver.specs.schema.ResolutionHandle.{IsHandleOf, index_of}
use Rattle.facet_solver.proofs.solver.Solver.candidates.Given as goal

abbrev pub invariant-loop-index : goal.invariant-loop-index
invariant-loop-index l = record {
  parts : l.yielded ++ l.index-iterator ≡ l.self-inside.candidates.members;
  indices : map index_of l.handles.items ≡ l.yielded;
  handles : All (IsHandleOf l.self-inside.schema.now) l.handles.items;
}
