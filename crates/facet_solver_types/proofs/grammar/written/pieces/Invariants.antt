use Rattle.std.proofs.Common.{◌≡◌, ◌++◌, length}
use Rattle.facet_solver_types.specs.Passages.{passage_view}
use Rattle.facet_solver_types.specs.Pieces.{pieces}
use Rattle.facet_solver_types.specs.WrittenTypes.{passages_view}
use Rattle.facet_solver_types.proofs.grammar.written.pieces.Given as goal

-- the parts so far, and then those of the rest
abbrev pub invariant-loop-left : goal.invariant-loop-left
invariant-loop-left l =
    pieces l.run (passage_view l.passage)
    ≡ passages_view l.found.items ++ pieces l.run (passage_view l.left)

abbrev pub decreases-loop-left : goal.decreases-loop-left
decreases-loop-left l = length l.left.tokens.now
