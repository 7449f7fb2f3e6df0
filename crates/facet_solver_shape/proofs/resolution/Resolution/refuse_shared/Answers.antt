use Rattle.std.proofs.Common.{◌≡◌, ◌∙◌, ap, sym, subst, map, Some, None}
use Rattle.std.specs.FinMap.{get}
use Rattle.std.specs.Option.{option_copied}
use Rattle.std.proofs.lemmas.List.Elements.{recursion_from_All}
use Rattle.facet_solver_shape.specs.Fields.{entry_view, IsStored}
use Rattle.facet_solver_shape.specs.Keys.{key_of}
use Rattle.facet_solver_shape.proofs.Resolved.{IsSearched, search_start, one_searched, search_end, merge_duplicate}
use Rattle.facet_solver_shape.proofs.resolution.Resolution.refuse_shared.Goals as goal

pub loop-key-init : goal.loop-key-init
loop-key-init c =
    let mine = c.args.self.now.fields in
    let other = c.args.other.now.fields in
    let seen = ap (map entry_view) c.into_iter-key-iterator.ensures.into_iter_gives.0 ∙ c.fields-key-items.ensures.in_order in
    subst (IsSearched mine other) (sym seen) (search_start mine other (recursion_from_All IsStored _ c.fields-key-items.ensures.stored))

pub loop-key-preserved : goal.loop-key-preserved
loop-key-preserved c =
    let none : get c.args.self.now.fields (key_of c.in-Some.key.now) ≡ None = ap (λ r. get r.fields (key_of c.in-Some.key.now)) (sym c.self.view_is) ∙ sym c.get.ensures ∙ ap option_copied c.in_default.is in
    let before = rw c.in-Some.ensures.steps at c.loop-key.invariant in
    one_searched _ _ _ _ _ none before

pub returns-in-Some-get-clause-refused : goal.returns-in-Some-get-clause-refused
returns-in-Some-get-clause-refused c =
    let before = rw c.in-Some.ensures.steps at c.loop-key.invariant in
    let taken : get c.args.self.now.fields (key_of c.in-Some.key.now) ≡ Some c.in-Some-get.present.now = ap (λ r. get r.fields (key_of c.in-Some.key.now)) (sym c.self.view_is) ∙ sym c.get.ensures ∙ ap option_copied c.in-Some-get.is in
    let duplicate = c.in_ok-duplicate.ensures in
    rw (c.from.ensures, duplicate.name) (merge_duplicate c.args.self.now c.args.other.now (key_of c.in-Some.key.now) c.in-Some.info.now c.in-Some-get.present.now _ _ before.found.0 before.stored.0 taken (sym duplicate.first) duplicate.second)

pub returns : goal.returns
returns c =
    let done = rw c.in-None.ensures.steps.0 at c.loop-key.invariant in
    record { ok = search_end _ _ done; refused = tt }
