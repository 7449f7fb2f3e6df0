use Rattle.std.proofs.Common.{ap, map}
use Rattle.facet_solver_reader.specs.Tables.{PartIsServed}
use Rattle.facet_solver_reader.specs.Views.{part_view, parts_view}
use Rattle.facet_solver_reader.proofs.CountingObjects.{seen_read}
use Rattle.facet_solver_reader.proofs.OnlyBranches.{none_by_part}
use Rattle.facet_solver_reader.proofs.Quantifiers.{all_at}
use Rattle.facet_solver_reader.proofs.count.chosen.fails_below.Goals as goal

pub fails_by_part-requires-clause-served : goal.fails_by_part-requires-clause-served
fails_by_part-requires-clause-served c =
    let t = c.args.tables.now in
    let ps = parts_view c.args.list.now.parts.items in
    let listed = c.requires.listed in
    all_at (PartIsServed t) ps c.loop-part.part-index (part_view c.part-item.result)
    (c.requires.tables.lists listed.index c.args.list.now listed.listed).served
    (seen_read part_view c.deref-part-items.result.now ps c.loop-part.part-index
    c.part-item.result (ap (map part_view) c.deref-part-items.ensures.value)
    c.loop-part-test.true c.part-item.is)

pub returns-then-fails_by_part : goal.returns-then-fails_by_part
returns-then-fails_by_part c = λ yes.
    let ps = parts_view c.args.list.now.parts.items in
    none_by_part c.args.tables.now c.args.nodes.now c.args.object.now c.requires.tables
    c.args.list.now c.requires.listed c.loop-part.part-index (part_view c.part-item.result)
    (seen_read part_view c.deref-part-items.result.now ps c.loop-part.part-index
    c.part-item.result (ap (map part_view) c.deref-part-items.ensures.value)
    c.loop-part-test.true c.part-item.is)
    (c.fails_by_part.ensures c.if-fails_by_part.true)
