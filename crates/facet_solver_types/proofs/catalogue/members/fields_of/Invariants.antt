use Rattle.std.proofs.Common.{◌≡◌, ◌++◌, drop, length, map}
use Rattle.std.specs.String.{string_bytes}
use Rattle.facet_solver_types.specs.MadeShapes.{fields_of}
use Rattle.facet_solver_types.specs.PlacedNames.{names_in}
use Rattle.facet_solver_types.specs.ShapeViews as shapes
use Rattle.facet_solver_types.specs.Understood.{field_view}
use Rattle.facet_solver_types.proofs.catalogue.members.fields_of.Given as goal

-- all fields are those so far, and those of the rest
abbrev pub invariant-loop-field : goal.invariant-loop-field
invariant-loop-field l =
    fields_of (names_in l.ids) (map field_view l.fields) (map string_bytes l.types)
    ≡ map shapes.field_view l.made.items
    ++ fields_of (names_in l.ids) (map field_view (drop (length l.yielded) l.fields))
    (map string_bytes (drop (length l.yielded) l.types))
