use Rattle.std.proofs.Common.{◌≡◌, map, take}
use Rattle.std.specs.String.{string_bytes}
use Rattle.facet_solver_types.specs.Declarations.{parameters_view}
use Rattle.facet_solver_types.specs.Roots.{parameter_names}
use Rattle.facet_solver_types.proofs.typing.roots.parameter_names.Given as goal

-- the names so far
abbrev pub invariant-loop-parameter : goal.invariant-loop-parameter
invariant-loop-parameter l =
    map string_bytes l.names.items
    ≡ parameter_names (parameters_view (take l.parameter-index l.parameters))
