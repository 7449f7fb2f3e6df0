use Rattle.std.proofs.Common.{◌≡◌, map, take}
use Rattle.facet_solver_types.specs.Named.{field_names, names_view}
use Rattle.facet_solver_types.specs.Understood.{field_view}
use Rattle.facet_solver_types.proofs.typing.named.field_names.Given as goal

-- the names so far
abbrev pub invariant-loop-field : goal.invariant-loop-field
invariant-loop-field l =
    names_view l.names.items ≡ field_names (map field_view (take l.field-index l.fields))
