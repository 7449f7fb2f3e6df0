use Rattle.std.proofs.Common.{◌≡◌, drop, map}
use Rattle.facet_solver_types.specs.ReadStructs.{has_flattened}
use Rattle.facet_solver_types.specs.Understood.{field_view}
use Rattle.facet_solver_types.proofs.declare.structs.has_flattened.Given as goal

-- what is sought of all is that of the rest
abbrev pub invariant-loop-field : goal.invariant-loop-field
invariant-loop-field l =
    has_flattened (map field_view l.fields)
    ≡ has_flattened (map field_view (drop l.field-index l.fields))
