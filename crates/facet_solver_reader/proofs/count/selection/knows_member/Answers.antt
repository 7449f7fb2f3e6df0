use Rattle.std.proofs.Common.{◌∙◌, ap, sym}
use Rattle.std.specs.Borrow.{Bor}
use Rattle.std.specs.List.{list_any}
use Rattle.facet_solver_shape.specs.Names.{Name}
use Rattle.facet_solver_shape.proofs.Lists.{list_any-map}
use Rattle.facet_solver_reader.specs.Documents.{Member}
use Rattle.facet_solver_reader.specs.Nodes.{members_in, value_of}
use Rattle.facet_solver_reader.specs.Objects.{has_name}
use Rattle.facet_solver_reader.specs.Reading.{member_view}
use Rattle.facet_solver_reader.specs.SelectionNames.{has_known}
use Rattle.facet_solver_reader.proofs.KnownNames.{knows_name, knows_some}
use Rattle.facet_solver_reader.proofs.count.selection.knows_member.Goals as goal

pub returns-then-members-len : goal.returns-then-members-len
returns-then-members-len c =
    let s = c.args.selection.now in
    let test = λ (m : Member). has_known s m.name in
    knows_some s (members_in (value_of c.args.nodes.now c.args.object.now.node))
    c.some_is_known.result
    (c.some_is_known.ensures
    ∙ (sym (list_any-map test member_view c.members_of-members.result.now)
    ∙ ap (list_any test) (c.members_of-members.ensures ∙ ap members_in c.value.ensures)))

pub returns-else-members-len : goal.returns-else-members-len
returns-else-members-len c =
    let ms = members_in (value_of c.args.nodes.now c.args.object.now.node) in
    knows_name c.args.selection.now ms c.has_any.result
    (c.has_any.ensures
    ∙ ap (list_any (λ (n : Bor Name). has_name ms n.now)) c.deref.ensures.value)
