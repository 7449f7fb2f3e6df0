use Rattle.std.proofs.Common.{arith, sym, ◌∙◌}
use Rattle.facet_solver_reader.proofs.PartNames.{differ_all, repeated_here}
use Rattle.facet_solver_reader.proofs.tables.names.repeated.Goals as goal

pub returns-then-eq : goal.returns-then-eq
returns-then-eq c =
    repeated_here c.args.names.now c.loop-later.later _ _ (omega (arith, c.loop-later.auto.later)) c.loop-later-test.true (sym c.eq.ensures ∙ c.if-eq.true)

pub returns : goal.returns
returns c = differ_all c.args.names.now c.requires (λ k d within. c.loop-later.invariant k d (omega (arith, within, c.loop-later-test.false)))
