use Rattle.std.proofs.Common.{arith}
use Rattle.facet_solver.proofs.NestedNames.{rise-next}
use Rattle.facet_solver.proofs.build.nested.by_name.are_rising.Goals as goal

pub returns : goal.returns
returns c = λ _. rise-next c.args.names.now (λ k d within. c.loop-later.invariant k d (omega (arith, within, c.loop-later-test.false)))
