use Rattle.facet_solver_reader.proofs.Marking.{AreTriedUpto}
use Rattle.facet_solver_reader.proofs.tables.every.EveryList.find_more_choices.Given as goal

-- the lists so far are tried
abbrev pub invariant-loop-number : goal.invariant-loop-number
invariant-loop-number l = AreTriedUpto l.initial.self l.has_more l.number l.self
