use Rattle.std.proofs.Common.{◌≡◌, drop}
use Rattle.facet_solver_types.specs.WrittenTypes.{passages_view, without_lifetimes}
use Rattle.facet_solver_types.proofs.grammar.written.without_lifetimes.Given as goal

-- all of them have those that the rest has
abbrev pub invariant-loop-at : goal.invariant-loop-at
invariant-loop-at l =
    without_lifetimes (passages_view l.passages) ≡ without_lifetimes (passages_view (drop l.at l.passages))
