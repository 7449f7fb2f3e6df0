use Rattle.std.proofs.Common.{◌≡◌, ◌∙◌, ap, map, slice_get, Some}
use Rattle.facet_solver_reader.specs.Parts.{a_selection}
use Rattle.facet_solver_reader.specs.Tables.{ListIsServed, PartIsServed}
use Rattle.facet_solver_reader.specs.Views.{list_view, part_view, parts_view, selection_view}
use Rattle.facet_solver_reader.proofs.CountingObjects.{seen_read}
use Rattle.facet_solver_reader.proofs.NearNames.{near_sorted, near_within}
use Rattle.facet_solver_reader.proofs.Quantifiers.{all_at}
use Rattle.facet_solver_reader.proofs.count.tagged.named_list.Goals as goal

pub list-requires : goal.list-requires
list-requires c =
    let t = c.args.tables.now in
    let ps = parts_view c.args.list.now.parts.items in
    let p = c.in-Some-Selection in
    let s = selection_view p.selection in
    let item = p.ensures.item in
    let part : slice_get ps 0 ≡ Some (a_selection s) =
    seen_read part_view c.deref.result.now ps 0 p.field-0.now
    (ap (map part_view) c.deref.ensures.value) item.3.0 item.1
    ∙ ap (λ q. Some (part_view q)) p.field-0-is in
    let look = c.in_ok-branch.ensures.lookup in
    let branch : slice_get s.branches c.in_ok-k.k ≡ Some (list_view c.in_ok-branch.branch.now) =
    seen_read list_view c.deref-3.result.now s.branches c.in_ok-k.k c.in_ok-branch.branch.now
    (ap (map list_view) c.deref-3.ensures.value) look.3.0 look.1 in
    let l = c.requires.tables.lists c.requires.listed.index c.args.list.now
    c.requires.listed.listed in
    all_at (ListIsServed t) s.branches c.in_ok-k.k (list_view c.in_ok-branch.branch.now)
    (all_at (PartIsServed t) ps 0 (a_selection s) l.served part) branch

pub returns-clause-sorted : goal.returns-clause-sorted
returns-clause-sorted c =
    near_sorted c.args.tables.now (list_view c.in_ok-branch.branch.now) c.list.result _
    c.requires.tables c.list.ensures

pub returns-clause-within : goal.returns-clause-within
returns-clause-within c =
    let t = c.args.tables.now in
    let ps = parts_view c.args.list.now.parts.items in
    let p = c.in-Some-Selection in
    let s = selection_view p.selection in
    let item = p.ensures.item in
    let part : slice_get ps 0 ≡ Some (a_selection s) =
    seen_read part_view c.deref.result.now ps 0 p.field-0.now
    (ap (map part_view) c.deref.ensures.value) item.3.0 item.1
    ∙ ap (λ q. Some (part_view q)) p.field-0-is in
    let look = c.in_ok-branch.ensures.lookup in
    let branch : slice_get s.branches c.in_ok-k.k ≡ Some (list_view c.in_ok-branch.branch.now) =
    seen_read list_view c.deref-3.result.now s.branches c.in_ok-k.k c.in_ok-branch.branch.now
    (ap (map list_view) c.deref-3.ensures.value) look.3.0 look.1 in
    near_within t c.args.list.now c.requires.listed.index 0 c.in_ok-k.k s
    (list_view c.in_ok-branch.branch.now) c.list.result _ c.requires.tables
    c.requires.listed.listed part branch c.list.ensures
