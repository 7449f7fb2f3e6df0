use Rattle.std.proofs.Common.{◌≡◌, ◌++◌, drop, map}
use Rattle.facet_solver_shape.specs.Names.{names_of}
use Rattle.facet_solver_types.specs.TypesViews.{declared_type_view, conditional}
use Rattle.facet_solver_types.proofs.parsed.conditional.Given as goal

-- those so far, and those of the others
abbrev pub invariant-loop-declared : goal.invariant-loop-declared
invariant-loop-declared l =
    conditional (map declared_type_view l.types)
    ≡ names_of l.names.items
    ++ conditional (map declared_type_view (drop l.declared-index l.types))
