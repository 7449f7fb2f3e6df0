use Rattle.std.proofs.Common.{◌≡◌, map, take}
use Rattle.facet_solver_types.specs.CataloguedTypes.{declared_types}
use Rattle.facet_solver_types.specs.PlacedNames.{names_in}
use Rattle.facet_solver_types.specs.TypeEntries.{entries_view}
use Rattle.facet_solver_types.specs.TypesViews.{declared_type_view}
use Rattle.facet_solver_types.specs.Understood.{declarations_view}
use Rattle.facet_solver_types.proofs.catalogue.declared.declared_types.Given as goal

-- those so far
abbrev pub invariant-loop-entry : goal.invariant-loop-entry
invariant-loop-entry l =
    map declared_type_view l.types.items
    ≡ declared_types (declarations_view l.declarations) (names_in l.order)
    (entries_view (take l.entry-index l.entries))
