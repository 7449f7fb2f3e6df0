use Rattle.std.proofs.Common.{◌≡◌, ◌+◌, drop, ap, ◌∙◌}
use Rattle.facet_solver_types.specs.Starts.{item_len, visible_len}
use Rattle.facet_solver_types.specs.Tokens.{tokens_view}
use Rattle.facet_solver_types.proofs.Views.{rest_view}
use Rattle.facet_solver_types.proofs.grammar.starts.item_len.Goals as goal

pub returns-clause-value : goal.returns-clause-value
unfolding item_len
returns-clause-value c =
    let ts = c.args.tokens.now in
    let context = c.args.context in
    let a = c.attributes_len-attributes.result in
    let rest : c.visible_len.result ≡ visible_len context (drop a (tokens_view ts)) =
    c.visible_len.ensures.value ∙ ap (visible_len context) (rest_view ts a) in
    ap (λ n. a + n) rest ∙ ap (λ n. n + visible_len context (drop n (tokens_view ts))) c.attributes_len-attributes.ensures.value
