use Rattle.std.proofs.Common.{◌≡◌, take}
use Rattle.facet_solver_shape.specs.Names.{names_of}
use Rattle.facet_solver_types.specs.DeclaredNames.{declared_names}
use Rattle.facet_solver_types.specs.Understood.{declarations_view}
use Rattle.facet_solver_types.proofs.named_declarations.name_places.Given as goal

-- the names so far
abbrev pub invariant-loop-declaration : goal.invariant-loop-declaration
invariant-loop-declaration l =
    names_of l.names.items
    ≡ declared_names (declarations_view (take l.declaration-index l.declarations))
