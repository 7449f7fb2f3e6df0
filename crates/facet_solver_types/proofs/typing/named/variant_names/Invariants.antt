use Rattle.std.proofs.Common.{◌≡◌, map, take}
use Rattle.facet_solver_types.specs.Named.{variant_names, names_view}
use Rattle.facet_solver_types.specs.Understood.{variant_view}
use Rattle.facet_solver_types.proofs.typing.named.variant_names.Given as goal

-- the names so far
abbrev pub invariant-loop-variant : goal.invariant-loop-variant
invariant-loop-variant l =
    names_view l.names.items ≡ variant_names (map variant_view (take l.variant-index l.variants))
