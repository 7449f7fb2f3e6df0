use Rattle.std.proofs.Common.{◌≡◌, ◌+◌, cond, drop, unwrap_or, ap, sym, ◌∙◌}
use Rattle.facet_solver_types.specs.FirstTokens.{sees_name}
use Rattle.facet_solver_types.specs.Starts.{call_len, named_call_len}
use Rattle.facet_solver_types.specs.Tokens.{tokens_view}
use Rattle.facet_solver_types.proofs.Views.{rest_view}
use Rattle.facet_solver_types.proofs.grammar.starts.named_call_len.Goals as goal

pub returns-then-sees_name-clause-value : goal.returns-then-sees_name-clause-value
unfolding named_call_len
returns-then-sees_name-clause-value c =
    let ts = tokens_view c.args.tokens.now in
    let n = c.unwrap_or-len.result in
    let is : n ≡ unwrap_or (call_len ts) 0 = c.unwrap_or-len.ensures ∙ ap (λ o. unwrap_or o 0) c.call_len.ensures.value in
    let seen = sym (ap sees_name (rest_view c.args.tokens.now n)) ∙ sym c.sees_name.ensures.value ∙ c.if-sees_name.true in
    sym (ap (λ k. cond (sees_name (drop k ts)) (k + 1) k) (sym is) ∙ ap (λ b. cond b (n + 1) n) seen)

pub returns-else-sees_name-clause-value : goal.returns-else-sees_name-clause-value
unfolding named_call_len
returns-else-sees_name-clause-value c =
    let ts = tokens_view c.args.tokens.now in
    let n = c.unwrap_or-len.result in
    let is : n ≡ unwrap_or (call_len ts) 0 = c.unwrap_or-len.ensures ∙ ap (λ o. unwrap_or o 0) c.call_len.ensures.value in
    let seen = sym (ap sees_name (rest_view c.args.tokens.now n)) ∙ sym c.sees_name.ensures.value ∙ c.if-sees_name.false in
    sym (ap (λ k. cond (sees_name (drop k ts)) (k + 1) k) (sym is) ∙ ap (λ b. cond b (n + 1) n) seen)
