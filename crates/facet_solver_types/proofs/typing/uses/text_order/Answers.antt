use Rattle.std.proofs.Common.{◌∙◌, ap, ltb, map, rules}
use Rattle.std.proofs.lemmas.Fn.{filter_same}
use Rattle.std.proofs.lemmas.List.Sorted.{answers_always, IsNonDecreasingBy-from_sort}
use Rattle.facet_solver_types.specs.UsedTypes.{text_order}
use Rattle.facet_solver_types.specs.Uses.{use_view}
use Rattle.facet_solver_types.proofs.TextOrder.{text_sorted}
use Rattle.facet_solver_types.proofs.typing.uses.text_order.Goals as goal

pub returns : goal.returns
returns c =
    let kept = filter_same _ (λ u. ltb u.now.index c.args.count) _ (λ u b f k. search rules) _ _ c.retain.ensures.filtered in
    let keys = answers_always _ _ _ (λ f a r next called. search rules) in
    let sorted = IsNonDecreasingBy-from_sort (λ u. u.now.index) _ (c.in_ok-sort_by_key.ensures.sorted (λ u. u.now.index) keys) in
    let stable = c.sort_by_key.ensures.stable (λ u. u.now.index) keys in
    ap (map (λ u. use_view u.now)) kept
    ∙ text_sorted (λ u. use_view u.now) _ _ c.args.count sorted stable
    ∙ ap (text_order c.args.count) c.in_ok-found.ensures
