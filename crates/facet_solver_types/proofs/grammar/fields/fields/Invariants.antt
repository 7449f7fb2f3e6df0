use Rattle.std.proofs.Common.{◌≡◌, length}
use Rattle.facet_solver_types.specs.Declarations.{fields_view}
use Rattle.facet_solver_types.specs.Fields.{fields}
use Rattle.facet_solver_types.specs.Passages.{passage_view}
use Rattle.facet_solver_types.proofs.Listed.{before}
use Rattle.facet_solver_types.proofs.grammar.fields.fields.Given as goal

abbrev pub invariant-loop-left : goal.invariant-loop-left
invariant-loop-left l =
    fields l.has_names l.may_be_public (passage_view l.passage)
    ≡ before (fields_view l.found.items) (fields l.has_names l.may_be_public (passage_view l.left))

abbrev pub decreases-loop-left : goal.decreases-loop-left
decreases-loop-left l = length l.left.tokens.now
