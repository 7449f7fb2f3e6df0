use Rattle.std.proofs.Common.{◌≡◌, ◌+◌, ◌-◌, true, drop, length, take, sym, ap, ◌∙◌}
use Rattle.std.proofs.lemmas.List.{take_rest}
use Rattle.facet_solver_types.specs.Conditions.{sees_condition}
use Rattle.facet_solver_types.specs.Runs.{group_len}
use Rattle.facet_solver_types.specs.Tokens.{tokens_view}
use Rattle.facet_solver_types.proofs.ConditionTurns.{behind_view, condition_goes, condition_here, condition_over}
use Rattle.facet_solver_types.proofs.Views.{front_view, rest_view}
use Rattle.facet_solver_types.proofs.declare.conditions.condition.Goals as goal

pub returns-then-sees_condition : goal.returns-then-sees_condition
returns-then-sees_condition c =
    let ts = c.args.attributes.now in
    let at = c.loop-at.at in
    let within = c.loop-at-test.true in
    let rest = take (length ts - at) (drop at ts) in
    let brackets = take (length rest - 1) (drop 1 rest) in
    let behind = tokens_view (drop (at + 1) ts) in
    let seen : tokens_view rest ≡ tokens_view (drop at ts) = ap tokens_view (take_rest ts at) in
    let inside : tokens_view brackets ≡ behind =
    rest_view rest 1 ∙ ap (drop 1) seen ∙ behind_view ts at within in
    let begins : sees_condition (tokens_view (drop at ts)) ≡ true =
    sym (ap sees_condition seen) ∙ sym c.sees_condition.ensures.value ∙ c.if-sees_condition.true in
    front_view brackets c.group_len.result
    ∙ ap (λ n. take n (tokens_view brackets)) c.group_len.ensures.value
    ∙ ap (λ l. take (group_len l) l) inside
    ∙ sym (c.loop-at.invariant ∙ condition_here ts at within begins)

pub loop-at-preserved : goal.loop-at-preserved
loop-at-preserved c =
    let ts = c.args.attributes.now in
    let at = c.loop-at.at in
    c.loop-at.invariant
    ∙ condition_goes ts at c.loop-at-test.true
    (sym (ap (λ l. sees_condition (tokens_view l)) (take_rest ts at))
    ∙ sym c.sees_condition.ensures.value ∙ c.if-sees_condition.false)

pub returns : goal.returns
returns c =
    sym (c.loop-at.invariant ∙ condition_over c.args.attributes.now c.loop-at.at c.loop-at-test.false)
