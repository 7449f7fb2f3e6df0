use Rattle.std.proofs.Common.{◌≡◌, map, take}
use Rattle.facet_solver_types.specs.Absences.{absences_of}
use Rattle.facet_solver_types.specs.PlacedNames.{names_in}
use Rattle.facet_solver_types.specs.TypeEntries.{entry_view}
use Rattle.facet_solver_types.specs.Understood.{declarations_view}
use Rattle.facet_solver_types.proofs.catalogue.absences.absences_of.Given as goal

-- those so far
abbrev pub invariant-loop-entry : goal.invariant-loop-entry
invariant-loop-entry l =
    l.absences.items
    ≡ absences_of (declarations_view l.declarations) (names_in l.ids)
    (map (λ e. entry_view e.now) (take l.entry-index l.entries))
