use Rattle.std.proofs.Common.{◌+◌, ◌-◌, length}
use Rattle.facet_solver_reader.proofs.count.memo.Memo.get.Given as goal

abbrev pub decreases-loop-cursor : goal.decreases-loop-cursor
decreases-loop-cursor l = length l.self.entries.items + 1 - l.cursor
