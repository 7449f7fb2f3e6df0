use Rattle.std.proofs.Common.{◌≡◌, ◌==◌, ◌&&◌, not, true, length, take, sym, ap, ◌∙◌}
use Rattle.facet_solver_types.specs.Conditions.{condition_of, has_form_in}
use Rattle.facet_solver_types.specs.Declarations.{items_view, module_item_view}
use Rattle.facet_solver_types.specs.NamePlaces.{places_of}
use Rattle.facet_solver_types.specs.PlacedItems.{form_names, has_form_at}
use Rattle.facet_solver_types.specs.Tokens.{tokens_view}
use Rattle.facet_solver_types.proofs.PlacedItems.{forms_by_name}
use Rattle.facet_solver_types.proofs.Views.{front_seen, view_len}
use Rattle.facet_solver_types.proofs.declare.conditions.has_other_form.Goals as goal

pub returns : goal.returns
returns c =
    let found = c.condition_of-condition.result.now in
    let list = c.args.items.now.list.now in
    let index = c.args.index in
    let m = module_item_view c.args.item.now in
    let all = items_view list in
    let before = take index all in
    let places = c.deref.result.now in
    let condition = condition_of m.item in
    let is : tokens_view found ≡ condition = c.condition_of-condition.ensures in
    let some : not (length condition == 0) ≡ true =
    ap (λ ts. not (length ts == 0)) (sym is)
    ∙ ap (λ n. not (n == 0)) (view_len found)
    ∙ ap (λ b. not b) (sym c.is_empty.ensures ∙ c.if-is_empty.false) in
    c.has_form_at.ensures
    ∙ ap (λ os. has_form_at (tokens_view found) m os places) (front_seen module_item_view list index)
    ∙ ap (λ ts. has_form_at ts m before places) is
    ∙ ap (has_form_at condition m before)
    (c.deref.ensures.value ∙ c.in_ok-places.ensures ∙ ap (λ n. places_of n (form_names all)) c.name_of.ensures)
    ∙ forms_by_name condition m index all
    ∙ sym (ap (λ b. b && has_form_in condition m before) some)
