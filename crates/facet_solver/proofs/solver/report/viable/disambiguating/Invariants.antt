use Rattle.std.proofs.Common.{◌≡◌, ◌++◌, map, string_bytes}
use Rattle.facet_solver_shape.specs.Names.{names_of}
use Rattle.facet_solver.proofs.AtIndices.{lacked_among}
use Rattle.facet_solver.proofs.solver.report.viable.disambiguating.Given as goal

abbrev pub invariant-loop-name : goal.invariant-loop-name
invariant-loop-name l =
    map string_bytes l.names.items ++ lacked_among l.schema.resolutions l.indices (names_of l.name-iterator)
    ≡ lacked_among l.schema.resolutions l.indices (names_of l.initial.name-iterator)
