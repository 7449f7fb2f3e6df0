use Rattle.std.proofs.Common.{ap, length, map, subst}
use Rattle.facet_solver_reader.specs.Blaming.{IsTakenPart}
use Rattle.facet_solver_reader.specs.SelectionNames.{PartHasBranchNames}
use Rattle.facet_solver_reader.specs.Tables.{PartIsBefore, PartIsServed, rules_at}
use Rattle.facet_solver_reader.specs.Views.{part_view, parts_view}
use Rattle.facet_solver_reader.proofs.Blaming.{listed_of_below, own_below, part_before, part_served}
use Rattle.facet_solver_reader.proofs.CountingObjects.{seen_read}
use Rattle.facet_solver_reader.proofs.NamedParts.{part_named}
use Rattle.facet_solver_reader.proofs.why.several.first_branches.Goals as goal

pub branches_of-requires-clause-served : goal.branches_of-requires-clause-served
branches_of-requires-clause-served c =
    let t = c.args.tables.now in
    let o = c.args.tallied.now.object in
    let l = o.list.now in
    let ps = parts_view l.parts.items in
    let i = c.loop-part.part-index in
    let at = seen_read part_view c.deref-part-items.result.now ps i c.part-item.result
    (ap (map part_view) c.deref-part-items.ensures.value) c.loop-part-test.true c.part-item.is in
    subst (PartIsServed t) (ap part_view c.in-Selection.is)
    (part_served t c.requires.tables l (part_view c.part-item.result)
    (listed_of_below t c.requires.tables o l
    (own_below t c.requires.tables c.args.nodes.now o c.requires.tallied.object)) (i, at))

pub branches_of-requires-clause-before : goal.branches_of-requires-clause-before
branches_of-requires-clause-before c =
    let t = c.args.tables.now in
    let a = c.args.tallied.now in
    let o = a.object in
    let l = o.list.now in
    let ps = parts_view l.parts.items in
    let i = c.loop-part.part-index in
    let at = seen_read part_view c.deref-part-items.result.now ps i c.part-item.result
    (ap (map part_view) c.deref-part-items.ensures.value) c.loop-part-test.true c.part-item.is in
    subst (PartIsBefore t o.list.now.below.items (length a.counts.items))
    (ap part_view c.in-Selection.is)
    (part_before t c.requires.tables c.args.nodes.now o c.requires.tallied.object l
    (part_view c.part-item.result) (length a.counts.items)
    (own_below t c.requires.tables c.args.nodes.now o c.requires.tallied.object) (i, at)
    c.requires.tallied.each)

pub branches_of-requires-clause-named : goal.branches_of-requires-clause-named
branches_of-requires-clause-named c =
    subst (PartHasBranchNames (rules_at c.args.tables.now).lists) c.in-Selection.is
    (part_named c.args.tables.now c.requires.tables c.args.tallied.now.object.list.now
    (listed_of_below c.args.tables.now c.requires.tables c.args.tallied.now.object
    c.args.tallied.now.object.list.now
    (own_below c.args.tables.now c.requires.tables c.args.nodes.now c.args.tallied.now.object
    c.requires.tallied.object))
    c.deref-part-items.result.now c.deref-part-items.ensures.value c.loop-part.part-index
    c.part-item.result c.loop-part-test.true c.part-item.is)

pub branches_of-requires-clause-part : goal.branches_of-requires-clause-part
branches_of-requires-clause-part c =
    let t = c.args.tables.now in
    let o = c.args.tallied.now.object in
    let l = o.list.now in
    let i = c.loop-part.part-index in
    let at = seen_read part_view c.deref-part-items.result.now (parts_view l.parts.items) i
    c.part-item.result (ap (map part_view) c.deref-part-items.ensures.value) c.loop-part-test.true
    c.part-item.is in
    subst (IsTakenPart t c.args.nodes.now o) (ap part_view c.in-Selection.is)
    (record {
      list = l;
      listed = listed_of_below t c.requires.tables o l
          (own_below t c.requires.tables c.args.nodes.now o c.requires.tallied.object);
      taken = c.requires.tallied.taken;
      part = (i, at);
    })
