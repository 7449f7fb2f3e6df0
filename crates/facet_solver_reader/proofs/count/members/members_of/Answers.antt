use Rattle.std.proofs.Common.{sym, ap, ◌∙◌, map}
use Rattle.facet_solver_reader.specs.Documents.{view}
use Rattle.facet_solver_reader.specs.Nodes.{members_in}
use Rattle.facet_solver_reader.specs.Reading.{member_view}
use Rattle.facet_solver_reader.proofs.Seen.{seen_members, seen_object}
use Rattle.facet_solver_reader.proofs.count.members.members_of.Goals as goal

pub returns-in-Object : goal.returns-in-Object
returns-in-Object c =
    let ms = c.in-Object.members in
    ap (map member_view) c.as_slice.ensures.value
    ∙ sym (ap members_in (ap view c.in-Object.is ∙ seen_object ms) ∙ seen_members ms.items)
