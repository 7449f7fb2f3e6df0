use Rattle.std.proofs.Common.{◌+◌, cond, drop, ap, sym, ◌∙◌}
use Rattle.facet_solver_types.specs.Starts.{bare_len, is_nothing, visible_len}
use Rattle.facet_solver_types.specs.Tokens.{tokens_view}
use Rattle.facet_solver_types.proofs.Views.{rest_view}
use Rattle.facet_solver_types.proofs.grammar.starts.visible_len.Goals as goal

pub returns-then-is_nothing-clause-value : goal.returns-then-is_nothing-clause-value
unfolding visible_len
returns-then-is_nothing-clause-value c =
    let context = c.args.context in
    let ts = tokens_view c.args.tokens.now in
    let v = c.visibility_len-visibility.result in
    let none = sym (ap (is_nothing context) (rest_view c.args.tokens.now v)) ∙ sym c.is_nothing.ensures ∙ c.if-is_nothing.true in
    sym (ap (λ k. cond (is_nothing context (drop k ts)) 0 (k + bare_len (drop k ts))) (sym c.visibility_len-visibility.ensures.value)
    ∙ ap (λ b. cond b 0 (v + bare_len (drop v ts))) none)

pub returns-else-is_nothing-clause-value : goal.returns-else-is_nothing-clause-value
unfolding visible_len
returns-else-is_nothing-clause-value c =
    let context = c.args.context in
    let ts = tokens_view c.args.tokens.now in
    let v = c.visibility_len-visibility.result in
    let some = sym (ap (is_nothing context) (rest_view c.args.tokens.now v)) ∙ sym c.is_nothing.ensures ∙ c.if-is_nothing.false in
    let bare = c.bare_len.ensures.value ∙ ap bare_len (rest_view c.args.tokens.now v) in
    ap (λ n. v + n) bare
    ∙ sym (ap (λ k. cond (is_nothing context (drop k ts)) 0 (k + bare_len (drop k ts))) (sym c.visibility_len-visibility.ensures.value)
    ∙ ap (λ b. cond b 0 (v + bare_len (drop v ts))) some)
