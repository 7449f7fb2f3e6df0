use Rattle.std.proofs.Common.{◌≡◌, ◌++◌, flat_map, map, take}
use Rattle.facet_solver_types.specs.Named.{field_repeats}
use Rattle.facet_solver_types.specs.Understood.{DeclaredVariant, variant_view}
use Rattle.facet_solver_types.proofs.typing.named.add_variant_repeats.Given as goal

-- those so far
abbrev pub invariant-loop-variant : goal.invariant-loop-variant
invariant-loop-variant l =
    l.faults.items ≡ l.initial.faults.items
    ++ flat_map (λ (v : DeclaredVariant). field_repeats v.fields)
    (map variant_view (take l.variant-index l.variants))
