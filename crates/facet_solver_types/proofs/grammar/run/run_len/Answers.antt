use Rattle.std.proofs.Common.{◌+◌, drop, sym, ap, ◌∙◌, arith}
use Rattle.facet_solver_types.specs.Runs.{run_from}
use Rattle.facet_solver_types.specs.Tokens.{tokens_view}
use Rattle.facet_solver_types.proofs.Turns.{run_ends, run_goes, run_over}
use Rattle.facet_solver_types.proofs.grammar.run.run_len.Goals as goal

pub returns-then-ends-clause-value : goal.returns-then-ends-clause-value
returns-then-ends-clause-value c =
    let l = c.loop-at in
    let none = run_ends c.args.run l.nest c.args.tokens.now l.at _ c.loop-at-test.true (sym c.ends.ensures ∙ c.if-ends.true) in
    omega (arith, none, l.invariant.0)

pub loop-at-preserved : goal.loop-at-preserved
loop-at-preserved c =
    let l = c.loop-at in
    let ts = c.args.tokens.now in
    let goes = run_goes c.args.run l.nest ts l.at _ c.loop-at-test.true (sym c.ends.ensures ∙ c.if-ends.false) in
    let nest = ap (λ n. run_from c.args.run n (tokens_view (drop (l.at + 1) ts))) c.nest_after-nest.ensures.value in
    let near = c.nest_after-nest.ensures.near in
    (omega (arith, goes, nest, l.invariant.0), omega (arith, near.0, l.invariant.1), omega (arith, near.1, l.invariant.2))

pub returns-clause-value : goal.returns-clause-value
returns-clause-value c =
    let l = c.loop-at in
    let none = run_over c.args.run l.nest c.args.tokens.now l.at c.loop-at-test.false in
    omega (arith, none, l.invariant.0)
