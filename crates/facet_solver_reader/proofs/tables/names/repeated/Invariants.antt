use Rattle.facet_solver_reader.proofs.PartNames.{DifferBelow}
use Rattle.facet_solver_reader.proofs.tables.names.repeated.Given as goal

-- each name so far differs from the next
abbrev pub invariant-loop-later : goal.invariant-loop-later
invariant-loop-later l = DifferBelow l.names l.later
