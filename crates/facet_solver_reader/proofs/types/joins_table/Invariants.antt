use Rattle.std.proofs.Common.{◌≡◌}
use Rattle.facet_solver_reader.specs.JoinTables.{joins_table}
use Rattle.facet_solver_reader.proofs.types.joins_table.Given as goal

-- the table after the rounds so far
abbrev pub invariant-loop : goal.invariant-loop
invariant-loop l = l.table.items ≡ joins_table l.counter l.shapes
