use Rattle.std.proofs.Common.{◌≡◌, map, take}
use Rattle.facet_solver_types.specs.Roots.{stand_in_names}
use Rattle.facet_solver_types.specs.Scopes.{str_view}
use Rattle.facet_solver_types.specs.Understood.{declarations_view}
use Rattle.facet_solver_types.proofs.typing.roots.stand_in_names.Given as goal

-- the names so far
abbrev pub invariant-loop-declaration : goal.invariant-loop-declaration
invariant-loop-declaration l =
    map str_view l.names.items
    ≡ stand_in_names (declarations_view (take l.declaration-index l.declarations))
