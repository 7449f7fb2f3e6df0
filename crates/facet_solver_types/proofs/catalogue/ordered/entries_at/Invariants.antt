use Rattle.std.proofs.Common.{◌≡◌, flat_map, map, take}
use Rattle.facet_solver_types.specs.CataloguedTypes.{entry_at}
use Rattle.facet_solver_types.specs.TypeEntries.{entries_view, entry_view}
use Rattle.facet_solver_types.proofs.catalogue.ordered.entries_at.Given as goal

-- the types so far
abbrev pub invariant-loop-place : goal.invariant-loop-place
invariant-loop-place l =
    map (λ e. entry_view e.now) l.found.items
    ≡ flat_map (entry_at (entries_view l.entries)) (take l.place-index l.places)
