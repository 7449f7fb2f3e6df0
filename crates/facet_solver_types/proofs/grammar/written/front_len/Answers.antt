use Rattle.std.proofs.Common.{arith}
use Rattle.facet_solver_types.proofs.WrittenTurns.{front_ends, front_goes, front_over}
use Rattle.facet_solver_types.proofs.grammar.written.front_len.Goals as goal

pub returns-then-not-goes_on-clause-value : goal.returns-then-not-goes_on-clause-value
returns-then-not-goes_on-clause-value c =
    let none = front_ends c.args.tokens.now c.loop-at.at c.loop-at-test.true c.goes_on.result c.goes_on.ensures c.if-not-goes_on.true in
    omega (arith, none, c.loop-at.invariant)

pub loop-at-preserved : goal.loop-at-preserved
loop-at-preserved c =
    let goes = front_goes c.args.tokens.now c.loop-at.at c.loop-at-test.true c.goes_on.result c.goes_on.ensures c.if-not-goes_on.false in
    omega (arith, goes, c.loop-at.invariant)

pub returns-clause-value : goal.returns-clause-value
returns-clause-value c =
    let none = front_over c.args.tokens.now c.loop-at.at c.loop-at-test.false in
    omega (arith, none, c.loop-at.invariant)
