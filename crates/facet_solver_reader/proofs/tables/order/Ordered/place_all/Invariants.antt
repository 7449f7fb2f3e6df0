use Rattle.facet_solver_reader.specs.Placing.{IsPlacedSoFar, unplaced}
use Rattle.facet_solver_reader.proofs.tables.order.Ordered.place_all.Given as goal

abbrev pub invariant-rounds : goal.invariant-rounds
invariant-rounds l = IsPlacedSoFar l.types l.every l.marks l.self

abbrev pub decreases-rounds : goal.decreases-rounds
decreases-rounds l = unplaced l.every l.self
