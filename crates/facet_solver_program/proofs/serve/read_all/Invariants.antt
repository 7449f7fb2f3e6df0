use Rattle.std.specs.Io.KnownBytes.{Consumes}
use Rattle.facet_solver_program.proofs.serve.read_all.Given as goal

-- what was read is what the input has consumed
abbrev pub invariant-loop : goal.invariant-loop
invariant-loop g l = Consumes (g.R.Read.remaining l.fn.input) (g.R.Read.remaining l.input) l.bytes.items
