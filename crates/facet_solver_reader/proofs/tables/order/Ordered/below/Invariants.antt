use Rattle.facet_solver_reader.proofs.Gathered.{AreGatheredUpto}
use Rattle.facet_solver_reader.proofs.tables.order.Ordered.below.Given as goal

-- what is below the parts before this one is gathered
abbrev pub invariant-loop-part : goal.invariant-loop-part
invariant-loop-part l = AreGatheredUpto l.self l.parts l.part-index l.gathered.items
