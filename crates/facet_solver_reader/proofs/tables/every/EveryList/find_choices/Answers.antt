use Rattle.facet_solver_reader.proofs.Marking.{settled_are_every}
use Rattle.facet_solver_reader.proofs.tables.every.EveryList.find_choices.Goals as goal

pub returns : goal.returns
returns c =
    let tried = c.find_more_choices.ensures in
    λ shapes found.
    settled_are_every shapes c.find_more_choices.new.self
    (tried.found shapes (c.loop.invariant shapes found))
    (tried.settled c.loop-test.false)
