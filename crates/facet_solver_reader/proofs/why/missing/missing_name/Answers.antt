use Rattle.std.proofs.Common.{ap, map}
use Rattle.facet_solver_reader.specs.Nodes.{members_in, value_of}
use Rattle.facet_solver_reader.specs.Tables.{PartIsServed}
use Rattle.facet_solver_reader.specs.Views.{part_view, parts_view}
use Rattle.facet_solver_reader.proofs.Blaming.{parts_served}
use Rattle.facet_solver_reader.proofs.CountingObjects.{seen_read}
use Rattle.facet_solver_reader.proofs.Lacking.{list_lacks}
use Rattle.facet_solver_reader.proofs.Quantifiers.{all_at}
use Rattle.facet_solver_reader.proofs.why.missing.missing_name.Goals as goal

pub missing_at-name-requires-clause-served : goal.missing_at-name-requires-clause-served
missing_at-name-requires-clause-served c =
    let l = c.args.list.now in
    let ps = parts_view l.parts.items in
    let i = c.loop-part.part-index in
    all_at (PartIsServed c.args.tables.now) ps i (part_view c.part-item.result)
    (parts_served c.args.tables.now c.requires.tables l c.requires.listed)
    (seen_read part_view c.deref-part-items.result.now ps i c.part-item.result
    (ap (map part_view) c.deref-part-items.ensures.value) c.loop-part-test.true c.part-item.is)

pub returns-then-is_some : goal.returns-then-is_some
returns-then-is_some c =
    let l = c.args.list.now in
    let ps = parts_view l.parts.items in
    let i = c.loop-part.part-index in
    list_lacks c.args.tables.now
    (members_in (value_of c.args.nodes.now c.args.object.now.node)) l i
    (part_view c.part-item.result) c.missing_at-name.result c.requires.tables c.requires.listed
    (seen_read part_view c.deref-part-items.result.now ps i c.part-item.result
    (ap (map part_view) c.deref-part-items.ensures.value) c.loop-part-test.true c.part-item.is)
    c.missing_at-name.ensures
