use Rattle.std.proofs.Common.{◌≡◌, ◌+◌, drop}
use Rattle.facet_solver_types.specs.Declarations.{parameters_view}
use Rattle.facet_solver_types.specs.Scopes.{parameter_place}
use Rattle.facet_solver_types.proofs.typing.scope.parameter_place.Given as goal

-- the name is not among those so far
abbrev pub invariant-loop-place : goal.invariant-loop-place
invariant-loop-place l =
    parameter_place (parameters_view l.parameters) l.name
    ≡ l.place + parameter_place (parameters_view (drop l.place l.parameters)) l.name
