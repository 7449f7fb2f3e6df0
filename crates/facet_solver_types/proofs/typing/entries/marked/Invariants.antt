use Rattle.std.proofs.Common.{◌≡◌, ◌++◌, drop, length}
use Rattle.facet_solver_types.specs.FirstEntries.{marked}
use Rattle.facet_solver_types.specs.TypeEntries.{entries_view}
use Rattle.facet_solver_types.proofs.typing.entries.marked.Given as goal

-- all that are marked are those so far, and those of the rest
abbrev pub invariant-loop-entry : goal.invariant-loop-entry
invariant-loop-entry l =
    marked l.marks (entries_view l.fn.entries.items)
    ≡ entries_view l.found.items
    ++ marked l.rest (entries_view (drop (length l.yielded) l.fn.entries.items))
