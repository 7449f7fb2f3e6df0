use Rattle.std.proofs.Common.{◌≡◌, ◌++◌, drop, take}
use Rattle.facet_solver_types.specs.FirstEntries.{are_first, are_first_behind}
use Rattle.facet_solver_types.specs.TypeEntries.{entries_view}
use Rattle.facet_solver_types.proofs.typing.entries.are_first.Given as goal

-- those so far, and those of the rest behind these
abbrev pub invariant-loop-at : goal.invariant-loop-at
invariant-loop-at l =
    are_first (entries_view l.entries)
    ≡ l.found.items ++ are_first_behind (entries_view (take l.at l.entries))
    (entries_view (drop l.at l.entries))
