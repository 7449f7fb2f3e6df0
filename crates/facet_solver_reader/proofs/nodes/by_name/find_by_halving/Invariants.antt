use Rattle.std.proofs.Common.{◌-◌}
use Rattle.facet_solver_reader.proofs.NodeNames.{IsBetween}
use Rattle.facet_solver_reader.proofs.nodes.by_name.find_by_halving.Given as goal

-- the name stands between the two indices, if it stands anywhere
abbrev pub invariant-loop-end : goal.invariant-loop-end
invariant-loop-end l = IsBetween l.named l.name l.start l.end

abbrev pub decreases-loop-end : goal.decreases-loop-end
decreases-loop-end l = l.end - l.start
