use Rattle.std.proofs.Common.{◌≡◌, ◌++◌, map, string_bytes}
use Rattle.facet_solver_shape.specs.Keys.{key_of}
use Rattle.facet_solver.specs.solver.Failure.{names_where}
use Rattle.facet_solver.proofs.solver.report.names.names_where.Given as goal

abbrev pub invariant-loop-key : goal.invariant-loop-key
invariant-loop-key g l =
    map string_bytes l.names.items ++ names_where (g.T.KeyTest.is_passed l.test) (map key_of l.key-iterator)
    ≡ names_where (g.T.KeyTest.is_passed l.test) (map key_of l.seen.keys)
