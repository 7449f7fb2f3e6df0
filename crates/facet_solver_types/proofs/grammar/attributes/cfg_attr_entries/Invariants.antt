use Rattle.std.proofs.Common.{◌≡◌, length}
use Rattle.facet_solver_types.specs.AttributeEntries.{cfg_attr_entries}
use Rattle.facet_solver_types.specs.Entries.{entries_view}
use Rattle.facet_solver_types.specs.Passages.{passage_view}
use Rattle.facet_solver_types.proofs.Listed.{before}
use Rattle.facet_solver_types.proofs.grammar.attributes.cfg_attr_entries.Given as goal

-- the entries so far, and those of the rest, are all
abbrev pub invariant-loop-left : goal.invariant-loop-left
invariant-loop-left l =
    cfg_attr_entries (passage_view l.inner)
    ≡ before (entries_view l.found.items) (cfg_attr_entries (passage_view l.left))

abbrev pub decreases-loop-left : goal.decreases-loop-left
decreases-loop-left l = length l.left.tokens.now
