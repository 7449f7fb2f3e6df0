use Rattle.facet_solver_reader.specs.Listing.{AreListsAdded}
use Rattle.facet_solver_reader.proofs.Added.{FirstOf}
use Rattle.facet_solver_reader.proofs.tables.every.EveryList.add_shape.Given as goal

-- the struct and the variants so far are added
abbrev pub invariant-loop-variant : goal.invariant-loop-variant
invariant-loop-variant l = AreListsAdded l.types l.fn.self l.self (FirstOf l.types l.shape l.variant)
