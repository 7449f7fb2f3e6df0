use Rattle.std.proofs.Common.{◌≡◌, map, take}
use Rattle.facet_solver_shape.specs.Names.{names_of}
use Rattle.facet_solver_types.specs.Links.{ids}
use Rattle.facet_solver_types.specs.TypeEntries.{entry_view}
use Rattle.facet_solver_types.proofs.catalogue.ordered.ordered_ids.Given as goal

-- the ids so far
abbrev pub invariant-loop-entry : goal.invariant-loop-entry
invariant-loop-entry l =
    names_of l.found.items ≡ ids (map (λ e. entry_view e.now) (take l.entry-index l.entries))
