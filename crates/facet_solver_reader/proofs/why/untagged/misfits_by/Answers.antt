use Rattle.std.proofs.Common.{ap, map, subst}
use Rattle.facet_solver_reader.specs.SelectionNames.{PartHasBranchNames}
use Rattle.facet_solver_reader.specs.Tables.{PartIsServed, rules_at}
use Rattle.facet_solver_reader.specs.Views.{part_view, parts_view}
use Rattle.facet_solver_reader.proofs.Blaming.{listed_of_below, own_below, part_served}
use Rattle.facet_solver_reader.proofs.CountingObjects.{seen_read}
use Rattle.facet_solver_reader.proofs.NamedParts.{part_named}
use Rattle.facet_solver_reader.proofs.why.untagged.misfits_by.Goals as goal

pub misfits_of-requires-clause-served : goal.misfits_of-requires-clause-served
misfits_of-requires-clause-served c =
    let t = c.args.tables.now in
    let tables = c.requires.sound.tables in
    let o = c.args.asked.now.object in
    let l = o.list.now in
    let ps = parts_view l.parts.items in
    let i = c.loop-part.part-index in
    let at = seen_read part_view c.deref-part-items.result.now ps i c.part-item.result
    (ap (map part_view) c.deref-part-items.ensures.value) c.loop-part-test.true c.part-item.is in
    subst (PartIsServed t) (ap part_view c.in-Selection.is)
    (part_served t tables l (part_view c.part-item.result)
    (listed_of_below t tables o l
    (own_below t tables c.args.nodes.now o c.requires.asked.object)) (i, at))

pub misfits_of-requires-clause-named : goal.misfits_of-requires-clause-named
misfits_of-requires-clause-named c =
    let t = c.args.tables.now in
    let tables = c.requires.sound.tables in
    let o = c.args.asked.now.object in
    subst (PartHasBranchNames (rules_at t).lists) c.in-Selection.is
    (part_named t tables o.list.now
    (listed_of_below t tables o o.list.now
    (own_below t tables c.args.nodes.now o c.requires.asked.object))
    c.deref-part-items.result.now c.deref-part-items.ensures.value c.loop-part.part-index
    c.part-item.result c.loop-part-test.true c.part-item.is)
