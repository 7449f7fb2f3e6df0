use Rattle.std.proofs.Common.{◌≡◌, take}
use Rattle.facet_solver_shape.specs.Names.{names_of}
use Rattle.facet_solver_types.specs.Links.{ids}
use Rattle.facet_solver_types.specs.TypeEntries.{entries_view}
use Rattle.facet_solver_types.proofs.typing.entries.ids.Given as goal

abbrev pub invariant-loop-entry : goal.invariant-loop-entry
invariant-loop-entry l =
    names_of l.found.items ≡ ids (entries_view (take l.entry-index l.entries))
