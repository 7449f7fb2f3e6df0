use Rattle.std.proofs.Common.{◌≡◌, ◌++◌, length}
use Rattle.facet_solver_types.specs.Literals.{unix_lines}
use Rattle.facet_solver_types.proofs.literal.unix_lines.Given as goal

-- what is left makes the lines whole
abbrev pub invariant-loop-letter : goal.invariant-loop-letter
invariant-loop-letter l = l.lines.items ++ unix_lines l.rest ≡ unix_lines l.letters

abbrev pub decreases-loop-letter : goal.decreases-loop-letter
decreases-loop-letter l = length l.rest
