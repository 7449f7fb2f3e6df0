use Rattle.std.proofs.Common.{◌≡◌, ◌++◌, filter}
use Rattle.facet_solver.specs.set.IndexSet.{IsWithin, how_many, matches_view}
use Rattle.facet_solver.proofs.set.ResolutionSet.matching.Given as goal

abbrev pub invariant-loop-index : goal.invariant-loop-index
invariant-loop-index g l = record {
  parts : l.yielded ++ l.index-iterator ≡ l.self.members;
  number : matches_view l.found ≡ how_many (filter (g.C.Condition.holds l.condition) l.yielded);
  within : IsWithin l.self.bound l.found;
}
