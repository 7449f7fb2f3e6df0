use Rattle.std.proofs.Common.{◌≡◌, take}
use Rattle.facet_solver_types.specs.Links.{links_view, needs}
use Rattle.facet_solver_types.specs.PlacedNames.{names_in}
use Rattle.facet_solver_types.specs.TypeEntries.{entries_view}
use Rattle.facet_solver_types.proofs.catalogue.links.needs.Given as goal

abbrev pub invariant-loop-entry : goal.invariant-loop-entry
invariant-loop-entry l =
    links_view l.links.items
    ≡ needs (names_in l.names) (entries_view (take l.entry-index l.entries))
