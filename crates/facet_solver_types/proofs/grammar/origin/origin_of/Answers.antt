use Rattle.std.proofs.Common.{◌∙◌, ap, drop, rules}
use Rattle.facet_solver_types.specs.Origins.{own_origin}
use Rattle.facet_solver_types.specs.Tokens.{token_view, tokens_view}
use Rattle.facet_solver_types.proofs.Views.{rest_seen}
use Rattle.facet_solver_types.proofs.grammar.origin.origin_of.Goals as goal

pub returns-then-is_own : goal.returns-then-is_own
returns-then-is_own c =
    let ts = c.args.tokens.now in
    let seen = rest_seen token_view ts c.saturating_sub.result ∙ ap (λ n. drop n (tokens_view ts)) c.saturating_sub.ensures in
    let rest = c.own_origin.ensures ∙ ap own_origin seen in
    search (rules, rest)
