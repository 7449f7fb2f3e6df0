use Rattle.std.proofs.Common.{◌≡◌, map, take}
use Rattle.facet_solver_types.specs.DeclaredEntries.{all_entries}
use Rattle.facet_solver_types.specs.TypeEntries.{entries_view}
use Rattle.facet_solver_types.specs.Understood.{declarations_view}
use Rattle.facet_solver_types.specs.Uses.{use_view}
use Rattle.facet_solver_types.proofs.typing.entries.all_entries.Given as goal

-- the entries so far
abbrev pub invariant-loop-used : goal.invariant-loop-used
invariant-loop-used l =
    entries_view l.found.items
    ≡ all_entries (declarations_view l.declarations.list.now)
    (map (λ u. use_view u.now) (take l.used-index l.uses))
