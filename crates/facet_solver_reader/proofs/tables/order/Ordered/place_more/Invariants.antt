use Rattle.facet_solver_reader.proofs.LeftLists.{AreMoreUpto}
use Rattle.facet_solver_reader.proofs.tables.order.Ordered.place_more.Given as goal

-- the lists before this one are placed, or stuck where none was placed
abbrev pub invariant-loop-number : goal.invariant-loop-number
invariant-loop-number l = AreMoreUpto l.types l.every l.marks l.initial.self l.self l.has_more l.number
