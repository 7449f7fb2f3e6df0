use Rattle.std.proofs.Common.{◌≡◌, ◌++◌, drop, map}
use Rattle.std.specs.String.{string_bytes}
use Rattle.facet_solver_types.specs.MadeShapes.{tuple_fields}
use Rattle.facet_solver_types.specs.PlacedNames.{names_in}
use Rattle.facet_solver_types.specs.ShapeViews as shapes
use Rattle.facet_solver_types.proofs.catalogue.members.tuple_fields.Given as goal

-- all fields are those so far, and those of the rest
abbrev pub invariant-loop-number : goal.invariant-loop-number
invariant-loop-number l =
    tuple_fields (names_in l.ids) 0 (map string_bytes l.types)
    ≡ map shapes.field_view l.made.items
    ++ tuple_fields (names_in l.ids) l.number (map string_bytes (drop l.number l.types))
