use Rattle.std.proofs.Common.{◌≡◌, drop, map}
use Rattle.facet_solver_types.specs.TypesViews.{declared_type_view, shape_named}
use Rattle.facet_solver_types.proofs.parsed.shape_named.Given as goal

-- it is none of those so far
abbrev pub invariant-loop-declared : goal.invariant-loop-declared
invariant-loop-declared l =
    shape_named (map declared_type_view l.types) l.name
    ≡ shape_named (map declared_type_view (drop l.declared-index l.types)) l.name
