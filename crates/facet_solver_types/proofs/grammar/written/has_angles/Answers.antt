use Rattle.std.proofs.Common.{◌-◌, ◌∙◌, ◌&&◌, ap, drop, length, sym}
use Rattle.facet_solver_types.specs.FirstTokens.{sees_mark}
use Rattle.facet_solver_types.specs.Tokens.{tokens_view}
use Rattle.facet_solver_types.proofs.Views.{rest_view, view_len}
use Rattle.facet_solver_types.proofs.grammar.written.has_angles.Goals as goal

pub returns-then-sees_mark-clause-value : goal.returns-then-sees_mark-clause-value
returns-then-sees_mark-clause-value c =
    let ts = c.args.tokens.now in
    let seen = tokens_view ts in
    let last = sees_mark 62 (drop (length seen - 1) seen) in
    c.sees_mark-then-sees_mark.ensures.value
    ∙ ap (sees_mark 62) (rest_view ts (length ts - 1))
    ∙ ap (λ n. sees_mark 62 (drop (n - 1) seen)) (sym (view_len ts))
    ∙ ap (λ b. b && last) (sym c.if-sees_mark.true ∙ c.sees_mark.ensures.value)
