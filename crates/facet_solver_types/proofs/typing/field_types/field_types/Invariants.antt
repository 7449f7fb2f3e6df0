use Rattle.std.proofs.Common.{◌≡◌, map, take}
use Rattle.std.specs.List.{fold}
use Rattle.facet_solver_types.specs.FieldTypes.{field_type, group_view, no_group, with_type}
use Rattle.facet_solver_types.specs.Scopes.{scope_view}
use Rattle.facet_solver_types.specs.Understood.{DeclaredField, field_view}
use Rattle.facet_solver_types.proofs.typing.field_types.field_types.Given as goal

-- the types so far
abbrev pub invariant-loop-field : goal.invariant-loop-field
invariant-loop-field l =
    group_view l.group
    ≡ fold (λ group (f : DeclaredField). with_type group (field_type (scope_view l.scope) f)) no_group
    (map field_view (take l.field-index l.fields))
