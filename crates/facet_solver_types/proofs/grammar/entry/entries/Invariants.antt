use Rattle.std.proofs.Common.{◌≡◌, length}
use Rattle.facet_solver_types.specs.Entries.{entries, entries_view}
use Rattle.facet_solver_types.specs.Passages.{passage_view}
use Rattle.facet_solver_types.proofs.Listed.{before}
use Rattle.facet_solver_types.proofs.grammar.entry.entries.Given as goal

abbrev pub invariant-loop-left : goal.invariant-loop-left
invariant-loop-left l =
    entries (passage_view l.passage)
    ≡ before (entries_view l.found.items) (entries (passage_view l.left))

abbrev pub decreases-loop-left : goal.decreases-loop-left
decreases-loop-left l = length l.left.tokens.now
