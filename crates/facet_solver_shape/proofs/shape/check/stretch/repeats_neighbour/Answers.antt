use Rattle.std.proofs.Common.{refl, sym, ◌∙◌, arith}
use Rattle.std.proofs.lemmas.Bool.{false≢true}
use Rattle.facet_solver_shape.proofs.RepeatedNames.{not_repeated_sorted, repeated_neighbours}
use Rattle.facet_solver_shape.proofs.shape.check.stretch.repeats_neighbour.Goals as goal

pub returns-then-eq : goal.returns-then-eq
returns-then-eq c =
    (λ _. repeated_neighbours c.args.names.now c.loop-later.later _ _ (omega (arith, c.loop-later.auto.later)) c.loop-later-test.true (sym c.eq.ensures ∙ c.if-eq.true), λ _. refl)

pub returns : goal.returns
returns c =
    (λ no. absurd (false≢true no), λ twice. absurd (not_repeated_sorted c.args.names.now c.requires (λ k h. c.loop-later.invariant k (omega arith)) twice))
