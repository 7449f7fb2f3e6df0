use Rattle.std.proofs.Common.{map}
use Rattle.facet_solver_shape.specs.Fields.{entry_view}
use Rattle.facet_solver_shape.proofs.Resolved.{IsSearched}
use Rattle.facet_solver_shape.proofs.resolution.Resolution.refuse_shared.Given as goal

abbrev pub invariant-loop-key : goal.invariant-loop-key
invariant-loop-key l = IsSearched l.self.fields l.other.fields (map entry_view l.key-iterator)
