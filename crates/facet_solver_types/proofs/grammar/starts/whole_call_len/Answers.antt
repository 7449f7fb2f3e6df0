use Rattle.std.proofs.Common.{◌≡◌, ◌+◌, ◌-◌, drop, take, length, ap, ◌∙◌}
use Rattle.facet_solver_types.specs.Starts.{brackets_len, semicolon_len, whole_call_len}
use Rattle.facet_solver_types.specs.Tokens.{tokens_view}
use Rattle.facet_solver_types.proofs.Views.{rest_view}
use Rattle.facet_solver_types.proofs.grammar.starts.whole_call_len.Goals as goal

pub returns-clause-value : goal.returns-clause-value
unfolding whole_call_len
returns-clause-value c =
    let ts = c.args.tokens.now in
    let n = c.named_call_len-name.result in
    let b = c.brackets_len-brackets.result in
    let rest = take (length ts - n) (drop n ts) in
    let left = drop n (tokens_view ts) in
    let view : tokens_view rest ≡ left = rest_view ts n in
    let end : c.semicolon_len.result ≡ semicolon_len (drop b left) =
    c.semicolon_len.ensures.value ∙ ap semicolon_len (rest_view rest b) ∙ ap (λ l. semicolon_len (drop b l)) view in
    let seen : b ≡ brackets_len left = c.brackets_len-brackets.ensures.value ∙ ap brackets_len view in
    ap (λ k. n + (b + k)) end ∙ ap (λ k. n + (k + semicolon_len (drop k left))) seen
    ∙ ap (λ k. k + (brackets_len (drop k (tokens_view ts)) + semicolon_len (drop (brackets_len (drop k (tokens_view ts))) (drop k (tokens_view ts))))) c.named_call_len-name.ensures.value
