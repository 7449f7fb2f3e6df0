use Rattle.std.proofs.Common.{◌∙◌, ◌&&◌, List, ap, not}
use Rattle.std.specs.Borrow.{Bor}
use Rattle.std.specs.List.{find}
use Rattle.std.specs.Option.{option_map}
use Rattle.facet_solver_shape.specs.Names.{Name}
use Rattle.facet_solver_reader.specs.Known.{named}
use Rattle.facet_solver_reader.specs.Nodes.{members_in, value_of}
use Rattle.facet_solver_reader.specs.Objects.{has_name}
use Rattle.facet_solver_reader.specs.Tables.{knows}
use Rattle.facet_solver_reader.proofs.KnownNames.{member_of_other, name_of_other}
use Rattle.facet_solver_reader.proofs.count.selection.other_member.Goals as goal

pub returns-then-members-len : goal.returns-then-members-len
returns-then-members-len c =
    member_of_other c.args.selection.now
    (members_in (value_of c.args.nodes.now c.args.object.now.node)) c.args.list.now
    c.members_of-members.result.now
    (c.members_of-members.ensures ∙ ap members_in c.value.ensures)
    c.other_of_members.result c.other_of_members.ensures

pub returns-else-members-len : goal.returns-else-members-len
returns-else-members-len c =
    let ms = members_in (value_of c.args.nodes.now c.args.object.now.node) in
    let list = c.args.list.now in
    name_of_other c.args.selection.now ms list c.other_of_names.result
    (c.other_of_names.ensures
    ∙ ap
    (λ (ns : List (Bor Name)).
    option_map (λ (n : Bor Name). n.now)
    (find (λ (n : Bor Name). not (knows list (named n.now)) && has_name ms n.now) ns))
    c.deref.ensures.value)
