use Rattle.std.proofs.Common.{sym, ◌∙◌, arith}
use Rattle.facet_solver_types.proofs.Qualifiers.{qualifiers_end, qualifiers_go, qualifiers_over}
use Rattle.facet_solver_types.proofs.grammar.starts.qualifiers_len.Goals as goal

pub returns-then-not-is_qualifier-clause-value : goal.returns-then-not-is_qualifier-clause-value
returns-then-not-is_qualifier-clause-value c =
    let none = qualifiers_end c.args.tokens.now c.loop-at.at _ c.loop-at-test.true (sym c.is_qualifier.ensures ∙ c.if-not-is_qualifier.true) in
    omega (arith, none, c.loop-at.invariant)

pub loop-at-preserved : goal.loop-at-preserved
loop-at-preserved c =
    let goes = qualifiers_go c.args.tokens.now c.loop-at.at _ c.loop-at-test.true (sym c.is_qualifier.ensures ∙ c.if-not-is_qualifier.false) in
    omega (arith, goes, c.loop-at.invariant)

pub returns-clause-value : goal.returns-clause-value
returns-clause-value c =
    let none = qualifiers_over c.args.tokens.now c.loop-at.at c.loop-at-test.false in
    omega (arith, none, c.loop-at.invariant)
