use Rattle.std.proofs.Common.{◌≡◌, map, take}
use Rattle.std.specs.List.{fold}
use Rattle.facet_solver_types.specs.FieldTypes.{field_types, groups_view, no_groups, with_group}
use Rattle.facet_solver_types.specs.Scopes.{scope_view}
use Rattle.facet_solver_types.specs.Understood.{DeclaredVariant, variant_view}
use Rattle.facet_solver_types.proofs.typing.field_types.variant_types.Given as goal

-- the types so far
abbrev pub invariant-loop-variant : goal.invariant-loop-variant
invariant-loop-variant l =
    groups_view l.groups
    ≡ fold (λ groups (v : DeclaredVariant).
    with_group groups (field_types (scope_view l.scope) v.fields)) no_groups
    (map variant_view (take l.variant-index l.variants))
