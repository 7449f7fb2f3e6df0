use Rattle.std.proofs.Common.{◌≡◌, drop, map}
use Rattle.facet_solver_types.specs.TypesViews.{declared_type_view, denies_unknown}
use Rattle.facet_solver_types.proofs.parsed.denies_unknown.Given as goal

-- it is none of those so far
abbrev pub invariant-loop-declared : goal.invariant-loop-declared
invariant-loop-declared l =
    denies_unknown (map declared_type_view l.types) l.id
    ≡ denies_unknown (map declared_type_view (drop l.declared-index l.types)) l.id
