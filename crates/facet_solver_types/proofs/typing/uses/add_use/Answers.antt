use Rattle.std.proofs.Common.{◌≡◌, ◌∙◌, List, ◌++◌, ◌∷◌, [], ap, map, subst, sym, true}
use Rattle.std.specs.BTreeSet.{contains_text}
use Rattle.std.specs.String.{string_bytes}
use Rattle.std.proofs.lemmas.List.{map-append}
use Rattle.facet_solver_types.specs.UsedTypes.{has_use}
use Rattle.facet_solver_types.specs.UseIds.{AreIdsOf}
use Rattle.facet_solver_types.specs.Uses.{Use, use_view, uses_view}
use Rattle.facet_solver_types.proofs.UseIds.{known_more, with_known, with_other}
use Rattle.facet_solver_types.proofs.typing.uses.add_use.Goals as goal

pub returns-then-contains : goal.returns-then-contains
returns-then-contains c =
    let found = uses_view c.args.found.now.items in
    let used = use_view c.args.used in
    let asked : contains_text c.args.ids.now used.id ≡ true =
    ap (contains_text c.args.ids.now) (sym c.as_str.ensures.value) ∙ sym c.contains.ensures
    ∙ c.if-contains.true in
    record {
      uses = sym (with_known found used (sym (c.requires used.id) ∙ asked));
      ids = c.requires;
    }

pub returns : goal.returns
returns c =
    let found = uses_view c.args.found.now.items in
    let used = use_view c.args.used in
    let id = string_bytes c.in_ok-clone.field-0 in
    let asked =
    ap (contains_text c.args.ids.now) (sym c.as_str.ensures.value) ∙ sym c.contains.ensures
    ∙ c.if-contains.false in
    let new : uses_view c.push.new.self.items ≡ found ++ used ∷ [] =
    ap uses_view c.in_ok-push.ensures.items
    ∙ map-append use_view c.args.found.now.items (c.args.used ∷ []) in
    let known : AreIdsOf c.insert.new.self (found ++ used ∷ []) =
    known_more c.args.ids.now c.insert.new.self id found used (sym c.in_ok-clone.ensures.cases)
    c.in_ok-insert.ensures.updates c.requires in
    record {
      uses = new ∙ sym (with_other found used (sym (c.requires used.id) ∙ asked));
      ids = subst (λ (us : List Use). AreIdsOf c.insert.new.self us) (sym new) known;
    }
