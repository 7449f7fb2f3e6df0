use Rattle.std.proofs.Common.{◌≡◌, ◌++◌, drop, length, map}
use Rattle.facet_solver_types.specs.Links.{names_view}
use Rattle.facet_solver_types.specs.MadeShapes.{variants_of}
use Rattle.facet_solver_types.specs.PlacedNames.{names_in}
use Rattle.facet_solver_types.specs.ShapeViews as shapes
use Rattle.facet_solver_types.specs.Understood.{variant_view}
use Rattle.facet_solver_types.proofs.catalogue.members.variants_of.Given as goal

-- all variants are those so far, and those of the rest
abbrev pub invariant-loop-variant : goal.invariant-loop-variant
invariant-loop-variant l =
    variants_of (names_in l.ids) (map variant_view l.variants) (names_view l.types)
    ≡ map shapes.variant_view l.made.items
    ++ variants_of (names_in l.ids) (map variant_view (drop (length l.yielded) l.variants))
    (names_view (drop (length l.yielded) l.types))
