use Rattle.std.proofs.Common.{◌≡◌, ◌∙◌, ◌≤◌, ap, ap₂, arith, length, map, sym}
use Rattle.facet_solver_shape.specs.Names.{Name}
use Rattle.facet_solver_reader.specs.Documents.{Tree, items_of, list, object, view}
use Rattle.facet_solver_reader.proofs.Views.{view-List, view-Object}
use Rattle.facet_solver_witnesses.specs.Trees.{tree}
use Rattle.facet_solver_witnesses.proofs.Loops.{mapped_all, mapped_more}
use Rattle.facet_solver_witnesses.proofs.Trees.{members_alike, own_member, seen_member, tree-List}
use Rattle.facet_solver_witnesses.proofs.Trees.{tree-Object}
use Rattle.facet_solver_witnesses.proofs.value.Value.+document.Goals as goal

pub loop-item-preserved : goal.loop-item-preserved
loop-item-preserved t c =
    mapped_more view tree c.deref-item-items.result.now c.loop-item.item-index c.item-item.result
    c.loop-item.documents.items c.push.new.items.items
    c.in_ok-document-in-List.document c.loop-item-test.true c.item-item.is c.loop-item.invariant
    c.in_ok-document-in-List.ensures c.in_ok-push-in-List.ensures

pub loop-member-preserved : goal.loop-member-preserved
loop-member-preserved t c =
    mapped_more seen_member own_member c.deref-member-items.result.now c.loop-member.member-index
    c.member-item.result c.loop-member.documents.items c.push-in-loop-member.new.items.items
    (c.as_str-in-loop-member.result, c.in_ok-document-in-Object.document)
    c.loop-member-test.true c.member-item.is c.loop-member.invariant
    (ap₂ (λ (n : Name) (v : Tree). (n, v)) c.as_str-in-loop-member.ensures.value
    c.in_ok-document-in-Object.ensures) c.in_ok-push-in-Object.ensures

pub returns-after-loop-item : goal.returns-after-loop-item
returns-after-loop-item t c =
    let xs = c.deref-item-items.result.now in
    let i = c.loop-item.item-index in
    let past : length xs ≤ i = omega (arith, c.loop-item-test.false) in
    let done = mapped_all view tree xs i c.loop-item.documents.items past c.loop-item.invariant in
    view-List c.loop-item.documents
    ∙ ap (λ ts. list (items_of ts)) (done ∙ ap (map tree) c.deref-item-items.ensures.value)
    ∙ sym (tree-List c.in-List.items) ∙ ap tree (sym c.in-List.is)

pub returns-after-loop-member : goal.returns-after-loop-member
returns-after-loop-member t c =
    let xs = c.deref-member-items.result.now in
    let i = c.loop-member.member-index in
    let past : length xs ≤ i = omega (arith, c.loop-member-test.false) in
    let done = mapped_all seen_member own_member xs i c.loop-member.documents.items past
    c.loop-member.invariant in
    view-Object c.loop-member.documents
    ∙ ap object (members_alike c.loop-member.documents.items c.in-Object.members.items
    (done ∙ ap (map own_member) c.deref-member-items.ensures.value))
    ∙ sym (tree-Object c.in-Object.members) ∙ ap tree (sym c.in-Object.is)
