use Rattle.std.proofs.Common.{◌≡◌, length}
use Rattle.facet_solver_types.specs.Declarations.{items_view}
use Rattle.facet_solver_types.specs.Enclosings.{around_view}
use Rattle.facet_solver_types.specs.Items.{items, items_in}
use Rattle.facet_solver_types.specs.Passages.{passage_view}
use Rattle.facet_solver_types.proofs.Listed.{before}
use Rattle.facet_solver_types.proofs.grammar.items.items.Given as goal

-- the items so far, and then those of the rest
abbrev pub invariant-loop-left : goal.invariant-loop-left
invariant-loop-left l =
    items (passage_view l.passage)
    ≡ before (items_view l.found.items)
    (items_in (around_view l.around.items) (passage_view l.left))

abbrev pub decreases-loop-left : goal.decreases-loop-left
decreases-loop-left l = length l.left.tokens.now
