use Rattle.facet_solver_reader.proofs.NodeNames.{DifferBelow}
use Rattle.facet_solver_reader.proofs.nodes.by_name.repeated_name.Given as goal

-- the names so far differ from the next
abbrev pub invariant-loop-later : goal.invariant-loop-later
invariant-loop-later l = DifferBelow l.named l.later
