use Rattle.std.proofs.Common.{◌≡◌, length}
use Rattle.facet_solver_types.specs.Declarations.{parameters_view}
use Rattle.facet_solver_types.specs.Parameters.{parameters_in}
use Rattle.facet_solver_types.specs.Passages.{passage_view}
use Rattle.facet_solver_types.proofs.Listed.{before}
use Rattle.facet_solver_types.proofs.grammar.parameters.parameters_in.Given as goal

-- the parameters so far, and then those of the rest
abbrev pub invariant-loop-left : goal.invariant-loop-left
invariant-loop-left l =
    parameters_in (passage_view l.passage)
    ≡ before (parameters_view l.found.items) (parameters_in (passage_view l.left))

abbrev pub decreases-loop-left : goal.decreases-loop-left
decreases-loop-left l = length l.left.tokens.now
