use Rattle.std.proofs.Common.{◌≡◌, ◌++◌, length}
use Rattle.facet_solver_tool.specs.Checks.{lines_view}
use Rattle.facet_solver_tool.specs.InputLines.{lines_of}
use Rattle.facet_solver_tool.proofs.check.accepted.lines_of.Given as goal

-- the lines so far, and those of the rest
abbrev pub invariant-loop-line : goal.invariant-loop-line
invariant-loop-line l = lines_of l.bytes ≡ lines_view l.lines.items ++ lines_of l.rest

-- how much is left
abbrev pub decreases-loop-line : goal.decreases-loop-line
decreases-loop-line l = length l.rest
