use Rattle.std.proofs.Common.{sym, ◌∙◌}
use Rattle.facet_solver_types.proofs.ConditionTurns.{texts_differ, texts_go, texts_over}
use Rattle.facet_solver_types.proofs.declare.conditions.same_texts.Goals as goal

pub loop-one-preserved : goal.loop-one-preserved
loop-one-preserved c =
    let l = c.loop-one in
    l.invariant
    ∙ texts_go c.args.ones.now l.left.now l.one-index _ c.loop-one-test.true
    (sym c.sees_text.ensures.value ∙ c.if-not-sees_text.false)

pub returns-then-not-sees_text : goal.returns-then-not-sees_text
returns-then-not-sees_text c =
    let l = c.loop-one in
    sym (l.invariant
    ∙ texts_differ c.args.ones.now l.left.now l.one-index _ c.loop-one-test.true
    (sym c.sees_text.ensures.value ∙ c.if-not-sees_text.true))

pub returns : goal.returns
returns c =
    let l = c.loop-one in
    c.is_empty.ensures
    ∙ sym (l.invariant ∙ texts_over c.args.ones.now l.left.now l.one-index c.loop-one-test.false)
