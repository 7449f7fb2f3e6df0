use Rattle.std.proofs.Common.{◌+◌, ◌-◌, length}
use Rattle.facet_solver_reader.specs.WorkList.{IsReachedSoFar}
use Rattle.facet_solver_reader.proofs.tables.reached.Reached.new.Given as goal

-- what is marked before the position is done
abbrev pub invariant-loop-position : goal.invariant-loop-position
invariant-loop-position l = IsReachedSoFar l.types l.every l.fn.root l.position l.reached

-- how much is left at most
abbrev pub decreases-loop-position : goal.decreases-loop-position
decreases-loop-position l = length l.types + length l.every.lists.items - l.position
