use Rattle.std.proofs.Common.{◌≡◌, [], ◌∷◌, ap, map, sym, ◌∙◌, subst, refl, slice_get, length}
use Rattle.std.proofs.lemmas.Option.{slice_get_read}
use Rattle.std.specs.Prelude.{IfSome}
use Rattle.facet_solver_reader.specs.Nodes.{members_in, value_of}
use Rattle.facet_solver_reader.specs.Parts.{Part, a_selection}
use Rattle.facet_solver_reader.specs.Tables.{ListIsServed, PartIsServed, rules_at}
use Rattle.facet_solver_reader.specs.Views.{list_view, part_view, selection_view}
use Rattle.facet_solver_reader.specs.Blaming.{PartLacks}
use Rattle.facet_solver_reader.proofs.Blaming.{lacks_found}
use Rattle.facet_solver_reader.proofs.Lacking.{one_item, selection_lacks}
use Rattle.facet_solver_reader.proofs.Quantifiers.{all_at}
use Rattle.facet_solver_reader.proofs.why.missing.missing_at.Goals as goal

pub returns-in_ok-get-in-len1 : goal.returns-in_ok-get-in-len1
returns-in_ok-get-in-len1 c =
    let t = c.args.tables.now in
    let nodes = c.args.nodes.now in
    let o = c.args.object.now in
    let ms = members_in (value_of nodes o.node) in
    let s = selection_view c.in-Selection.selection in
    let id = list_view c.branch-item.result in
    let part : part_view c.args.part.now ≡ a_selection s = ap part_view c.in-Selection.is in
    let served = subst (PartIsServed t) part c.requires.served in
    let items = c.as_slice.result.now in
    let item = one_item items c.branch-item.result c.in-len1.len_at_least c.in-len1.len_below
    c.branch-item.is in
    let one : s.branches ≡ id ∷ [] =
    ap (map list_view) (sym c.as_slice.ensures.value ∙ item) in
    let here = all_at (ListIsServed t) s.branches 0 id served
    (ap (λ bs. slice_get bs 0) one) in
    let look = c.in_ok-get-in-len1.ensures.lookup in
    let name = c.in_ok-get-in-len1.field-0.now in
    let at = slice_get_read c.args.missing.now (length c.args.missing.now)
    c.in_ok-position-in-len1.position name refl look.3.0 look.1 in
    subst (λ (p : Part). IfSome name (λ x. PartLacks (rules_at t) ms p x.now)) (sym part)
    (selection_lacks (rules_at t) ms s id name c.if-not-selection.true one
    (lacks_found t nodes o c.args.missing.now c.requires.missing id
    c.in_ok-position-in-len1.position here c.in_ok-position-in-len1.ensures name at))
