use Rattle.facet_solver_reader.proofs.NodeNames.{NoneBelow}
use Rattle.facet_solver_reader.proofs.nodes.by_name.find_by_walk.Given as goal

-- the names so far are others
abbrev pub invariant-loop-member : goal.invariant-loop-member
invariant-loop-member l = NoneBelow l.named l.name l.member-index
