use Rattle.facet_solver_reader.specs.Nodes.{members_in, value_of}
use Rattle.facet_solver_reader.specs.Parts.{a_member}
use Rattle.facet_solver_reader.specs.Tables.{rules_at}
use Rattle.facet_solver_reader.specs.Views.{list_view, member_view, parts_view}
use Rattle.facet_solver_reader.proofs.Blaming.{listed_of_below, part_served}
use Rattle.facet_solver_reader.proofs.Lacking.{lacks_by_part, member_lacks}
use Rattle.facet_solver_reader.proofs.why.object.none_in_member.Goals as goal

pub into-requires-clause-served : goal.into-requires-clause-served
into-requires-clause-served c =
    let t = c.args.tables.now in
    let tables = c.requires.sound.tables in
    let l = c.args.list.now in
    part_served t tables l (a_member (member_view c.args.member.now))
    (listed_of_below t tables c.args.object.now l c.requires.below) c.requires.part

pub returns-in-Some-clause-next : goal.returns-in-Some-clause-next
returns-in-Some-clause-next c =
    c.into.ensures.next (value_of c.args.nodes.now c.args.object.now.node)

pub lacking-lacks-requires-clause-below : goal.lacking-lacks-requires-clause-below
lacking-lacks-requires-clause-below c = c.requires.below

pub lacking-lacks-requires-clause-lacks : goal.lacking-lacks-requires-clause-lacks
lacking-lacks-requires-clause-lacks c =
    let t = c.args.tables.now in
    let rules = rules_at t in
    let tables = c.requires.sound.tables in
    let l = c.args.list.now in
    let ps = parts_view l.parts.items in
    let ms = members_in (value_of c.args.nodes.now c.args.object.now.node) in
    let m = member_view c.args.member.now in
    let listed = listed_of_below t tables c.args.object.now l c.requires.below in
    lacks_by_part rules ms (list_view l.id) ps c.requires.part.0 (a_member m) m.name
    (tables.lists listed.index l listed.listed).same c.requires.part.1
    (member_lacks rules ms m c.if-member.true c.in-None.ensures)
