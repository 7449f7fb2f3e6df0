use Rattle.std.proofs.Common.{◌-◌}
use Rattle.facet_solver_reader.proofs.count.memo.lead.Given as goal

abbrev pub decreases-loop-cursor : goal.decreases-loop-cursor
decreases-loop-cursor l = l.number - l.cursor
