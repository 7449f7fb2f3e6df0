use Rattle.std.proofs.Common.{ap, map}
use Rattle.facet_solver_reader.specs.Views.{part_view, parts_view}
use Rattle.facet_solver_reader.proofs.Blaming.{listed_of_below, part_before, part_served}
use Rattle.facet_solver_reader.proofs.CountingObjects.{seen_read}
use Rattle.facet_solver_reader.proofs.NamedParts.{part_named}
use Rattle.facet_solver_reader.proofs.why.stop.stop_in_list.Goals as goal

pub stop_in_part-requires-clause-served : goal.stop_in_part-requires-clause-served
stop_in_part-requires-clause-served c =
    let t = c.args.tables.now in
    let l = c.args.list.now in
    let ps = parts_view l.parts.items in
    let i = c.loop-part.part-index in
    let at = seen_read part_view c.deref-part-items.result.now ps i c.part-item.result
    (ap (map part_view) c.deref-part-items.ensures.value) c.loop-part-test.true c.part-item.is in
    part_served t c.requires.sound.tables l (part_view c.part-item.result)
    (listed_of_below t c.requires.sound.tables c.args.asked.now.object l c.requires.below) (i, at)

pub stop_in_part-requires-clause-before : goal.stop_in_part-requires-clause-before
stop_in_part-requires-clause-before c =
    let t = c.args.tables.now in
    let l = c.args.list.now in
    let ps = parts_view l.parts.items in
    let i = c.loop-part.part-index in
    let at = seen_read part_view c.deref-part-items.result.now ps i c.part-item.result
    (ap (map part_view) c.deref-part-items.ensures.value) c.loop-part-test.true c.part-item.is in
    part_before t c.requires.sound.tables c.args.nodes.now c.args.asked.now.object
    c.requires.asked.object l (part_view c.part-item.result) _ c.requires.below (i, at)
    c.requires.asked.each

pub stop_in_part-requires-clause-named : goal.stop_in_part-requires-clause-named
stop_in_part-requires-clause-named c =
    part_named c.args.tables.now c.requires.sound.tables c.args.list.now
    (listed_of_below c.args.tables.now c.requires.sound.tables c.args.asked.now.object
    c.args.list.now c.requires.below)
    c.deref-part-items.result.now c.deref-part-items.ensures.value c.loop-part.part-index
    c.part-item.result c.loop-part-test.true c.part-item.is
