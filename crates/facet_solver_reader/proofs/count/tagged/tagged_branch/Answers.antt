use Rattle.std.proofs.Common.{◌≡◌, ◌∙◌, ap, map, slice_get, Some}
use Rattle.facet_solver_reader.specs.Parts.{of_branch}
use Rattle.facet_solver_reader.specs.Views.{list_view, selection_view}
use Rattle.facet_solver_reader.proofs.CountingObjects.{seen_read}
use Rattle.facet_solver_reader.proofs.ReadByTag.{alone_named, alone_unnamed}
use Rattle.facet_solver_reader.proofs.count.tagged.tagged_branch.Goals as goal

pub returns-in-None-clause-alone : goal.returns-in-None-clause-alone
returns-in-None-clause-alone c =
    let s = selection_view c.args.selection.now in
    let b = c.in-Some-Branch in
    let item = b.ensures.item in
    let first : slice_get s.branches 0 ≡ Some (of_branch b.id b.field-0-1) =
    seen_read list_view c.deref.result.now s.branches 0 b.field-0.now
    (ap (map list_view) c.deref.ensures.value) item.3.0 item.1
    ∙ ap (λ i. Some (list_view i)) b.field-0-is in
    alone_unnamed c.args.tables.now c.args.nodes.now c.args.object.now b.id c.in_ok-tag.tag.now
    c.in_ok-tag.ensures s c.requires.part b.field-0-1 first c.in-None.ensures 0

pub returns-in-Some-Branch-get-clause-alone : goal.returns-in-Some-Branch-get-clause-alone
returns-in-Some-Branch-get-clause-alone c =
    let s = selection_view c.args.selection.now in
    let k = c.in-Some.k in
    let b = c.in-Some-Branch in
    let item = b.ensures.item in
    let first : slice_get s.branches 0 ≡ Some (of_branch b.id b.field-0-1) =
    seen_read list_view c.deref.result.now s.branches 0 b.field-0.now
    (ap (map list_view) c.deref.ensures.value) item.3.0 item.1
    ∙ ap (λ i. Some (list_view i)) b.field-0-is in
    let got = c.in-Some-Branch-get in
    let look = got.ensures.lookup in
    let at : slice_get s.branches k ≡ Some (of_branch got.field-0-0 k) =
    seen_read list_view c.deref-in-Some.result.now s.branches k got.field-0.now
    (ap (map list_view) c.deref-in-Some.ensures.value) look.3.0 look.1
    ∙ ap (λ i. Some (list_view i)) got.field-0-is
    ∙ ap (λ n. Some (of_branch got.field-0-0 n)) c.if-variant-k.true in
    alone_named c.args.tables.now c.args.nodes.now c.args.object.now b.id c.in_ok-tag.tag.now
    c.in_ok-tag.ensures s c.requires.part b.field-0-1 first k got.field-0-0 c.in-Some.ensures at
