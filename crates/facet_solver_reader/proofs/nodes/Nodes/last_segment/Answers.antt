use Rattle.std.proofs.Common.{◌≡◌, ℕ, ◌-◌, ◌<◌, length, slice_get, ap, sym, ◌∙◌, arith}
use Rattle.facet_solver_reader.specs.Documents.{Tree, object, members_view, view}
use Rattle.facet_solver_reader.specs.Nodes.{children, value_of}
use Rattle.facet_solver_reader.specs.Places.{inside, to_item, to_member}
use Rattle.facet_solver_reader.proofs.Trees.{item_inside, long_members, member_read, view-Object}
use Rattle.facet_solver_reader.proofs.Numbering.{child_of_parent, first_upto, index_within, name_leads, parent_opened, parent_read, parent_within}
use Rattle.facet_solver_reader.proofs.nodes.Nodes.last_segment.Goals as goal

pub index-requires-2 : goal.index-requires-2
index-requires-2 c =
    let opened = parent_opened c.args.self.now c.requires.under_way c.args.node c.index.result.now c.requires.in_range.0 c.requires.in_range.1 c.index.ensures in
    omega (arith, opened, c.args.self.now.openings.ok.0)

pub overflow_sub-index : goal.overflow_sub-index
overflow_sub-index c =
    first_upto c.args.self.now c.requires.under_way c.args.node c.index.result.now c.requires.in_range.0 c.requires.in_range.1 c.index.ensures c.index-2.result.now c.index-2.ensures

pub value-requires : goal.value-requires
value-requires c = parent_within c.args.self.now c.requires.under_way c.args.node c.index.result.now c.requires.in_range.0 c.requires.in_range.1 c.index.ensures

-- the value around it, where it is an object
object_is : (c : goal.In-Object) → value_of c.args.self.now c.index.result.now.parent ≡ object (members_view c.in-Object.members.items)
object_is c = sym c.value.ensures ∙ ap view c.in-Object.is ∙ view-Object c.in-Object.members

pub index-requires-in-Object : goal.index-requires-in-Object
index-requires-in-Object c =
    let within = index_within c.args.self.now c.requires.under_way c.args.node c.index.result.now c.requires.in_range.0 c.requires.in_range.1 c.index.ensures c.index-2.result.now c.index-2.ensures (members_view c.in-Object.members.items) (object_is c) in
    omega (arith, within, long_members c.in-Object.members.items, c.in-Object.members.ok.0)

pub returns-in-Object : goal.returns-in-Object
returns-in-Object c =
    let nodes = c.args.self.now in
    let n = c.index.result.now in
    let m = c.index-in-Object.result.now in
    let ms = c.in-Object.members.items in
    let object_is = sym c.value.ensures ∙ ap view c.in-Object.is ∙ view-Object c.in-Object.members in
    let there = index_within nodes c.requires.under_way c.args.node n c.requires.in_range.0 c.requires.in_range.1 c.index.ensures c.index-2.result.now c.index-2.ensures (members_view ms) object_is in
    let within : c.args.node - c.index-2.result.now.first < length ms = omega (arith, there, long_members ms) in
    ap (λ (p : ℕ). inside (value_of nodes p) (to_member m.0.now)) (sym (parent_read nodes c.args.node n c.requires.in_range.1 c.index.ensures))
    ∙ name_leads nodes c.requires.under_way c.args.node n c.requires.in_range.0 c.requires.in_range.1 c.index.ensures c.index-2.result.now c.index-2.ensures (members_view ms) object_is
    (record { name = m.0.now; value = view m.1 })
    (member_read ms (c.args.node - c.index-2.result.now.first) m within c.index-in-Object.ensures)

pub returns-in_default : goal.returns-in_default
returns-in_default c =
    ap (λ (p : ℕ). inside (value_of c.args.self.now p) (to_item (c.args.node - c.index-2.result.now.first))) (sym (parent_read c.args.self.now c.args.node c.index.result.now c.requires.in_range.1 c.index.ensures))
    ∙ ap (λ (v : Tree). inside v (to_item (c.args.node - c.index-2.result.now.first))) (sym c.value.ensures)
    ∙ item_inside c.value.result.now (c.args.node - c.index-2.result.now.first) (value_of c.args.self.now c.args.node) c.in_default.not-Object
    (ap (λ (v : Tree). slice_get (children v) (c.args.node - c.index-2.result.now.first)) c.value.ensures
    ∙ child_of_parent c.args.self.now c.requires.under_way c.args.node c.index.result.now c.requires.in_range.0 c.requires.in_range.1 c.index.ensures c.index-2.result.now c.index-2.ensures)
