use Rattle.facet_solver_reader.specs.Listing.{KeepsFound, unmarked}
use Rattle.facet_solver_reader.proofs.tables.every.EveryList.find_choices.Given as goal

-- what was found at first still holds
abbrev pub invariant-loop : goal.invariant-loop
invariant-loop l = KeepsFound l.initial.self l.self

abbrev pub decreases-loop : goal.decreases-loop
decreases-loop l = unmarked l.self
