use Rattle.std.proofs.Common.{◌≡◌, ◌+◌, drop, sym, ap, ◌∙◌, arith}
use Rattle.facet_solver_types.specs.Starts.{path_from}
use Rattle.facet_solver_types.specs.Tokens.{tokens_view}
use Rattle.facet_solver_types.proofs.Paths.{path_broken, path_called, path_goes, path_over}
use Rattle.facet_solver_types.proofs.grammar.starts.path_len.Goals as goal

pub loop-at-preserved : goal.loop-at-preserved
loop-at-preserved c =
    let l = c.loop-at in
    let count = c.args.count + l.at in
    let one : count + 1 ≡ c.args.count + (l.at + 1) = omega arith in
    l.invariant
    ∙ path_goes l.path count c.args.tokens.now l.at _ c.loop-at-test.true c.path_step-path.result c.path_step-path.ensures (sym c.is_called.ensures ∙ c.if-is_called.false) (sym c.is_broken.ensures ∙ c.if-is_broken.false)
    ∙ ap (λ n. path_from c.path_step-path.result n (tokens_view (drop (l.at + 1) c.args.tokens.now))) one

pub returns-then-is_called-clause-value : goal.returns-then-is_called-clause-value
returns-then-is_called-clause-value c =
    let l = c.loop-at in
    sym (l.invariant ∙ path_called l.path (c.args.count + l.at) c.args.tokens.now l.at _ c.loop-at-test.true c.path_step-path.result c.path_step-path.ensures (sym c.is_called.ensures ∙ c.if-is_called.true))

pub returns-then-is_broken-clause-value : goal.returns-then-is_broken-clause-value
returns-then-is_broken-clause-value c =
    let l = c.loop-at in
    sym (l.invariant ∙ path_broken l.path (c.args.count + l.at) c.args.tokens.now l.at _ c.loop-at-test.true c.path_step-path.result c.path_step-path.ensures (sym c.is_called.ensures ∙ c.if-is_called.false) (sym c.is_broken.ensures ∙ c.if-is_broken.true))

pub returns-clause-value : goal.returns-clause-value
returns-clause-value c =
    let l = c.loop-at in
    sym (l.invariant ∙ path_over l.path (c.args.count + l.at) c.args.tokens.now l.at c.loop-at-test.false)
