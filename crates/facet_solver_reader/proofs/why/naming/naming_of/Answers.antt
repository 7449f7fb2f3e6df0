use Rattle.std.proofs.Common.{ap, map}
use Rattle.facet_solver_reader.specs.Tables.{PartIsServed}
use Rattle.facet_solver_reader.specs.Views.{part_view, parts_view}
use Rattle.facet_solver_reader.proofs.Blaming.{parts_served}
use Rattle.facet_solver_reader.proofs.CountingObjects.{seen_read}
use Rattle.facet_solver_reader.proofs.Quantifiers.{all_at}
use Rattle.facet_solver_reader.proofs.why.naming.naming_of.Goals as goal

pub naming_at-requires-clause-served : goal.naming_at-requires-clause-served
naming_at-requires-clause-served c =
    let l = c.args.list.now in
    let ps = parts_view l.parts.items in
    let i = c.loop-part.part-index in
    all_at (PartIsServed c.args.tables.now) ps i (part_view c.part-item.result)
    (parts_served c.args.tables.now c.requires.sound.tables l c.requires.listed)
    (seen_read part_view c.deref-part-items.result.now ps i c.part-item.result
    (ap (map part_view) c.deref-part-items.ensures.value) c.loop-part-test.true c.part-item.is)
