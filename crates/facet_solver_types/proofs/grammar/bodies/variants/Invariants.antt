use Rattle.std.proofs.Common.{◌≡◌, length}
use Rattle.facet_solver_types.specs.Bodies.{variants}
use Rattle.facet_solver_types.specs.Declarations.{variants_view}
use Rattle.facet_solver_types.specs.Passages.{passage_view}
use Rattle.facet_solver_types.proofs.Listed.{before}
use Rattle.facet_solver_types.proofs.grammar.bodies.variants.Given as goal

abbrev pub invariant-loop-left : goal.invariant-loop-left
invariant-loop-left l =
    variants (passage_view l.passage)
    ≡ before (variants_view l.found.items) (variants (passage_view l.left))

abbrev pub decreases-loop-left : goal.decreases-loop-left
decreases-loop-left l = length l.left.tokens.now
