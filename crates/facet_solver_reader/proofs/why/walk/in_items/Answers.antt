use Rattle.std.proofs.Common.{◌≡◌, sym, ap, ◌∙◌, arith}
use Rattle.facet_solver_reader.specs.Documents.{Tree, list, items_view, view}
use Rattle.facet_solver_reader.specs.Nodes.{value_of}
use Rattle.facet_solver_reader.proofs.InMemory.{list_length}
use Rattle.facet_solver_reader.proofs.Seen.{seen_list}
use Rattle.facet_solver_reader.proofs.why.walk.in_items.Goals as goal

pub child-item-requires-clause-index_in_range : goal.child-item-requires-clause-index_in_range
child-item-requires-clause-index_in_range c =
    let v : Tree = value_of c.args.nodes.now c.args.node in
    let tree : v ≡ list (items_view c.in-List.items.items) =
    sym c.value.ensures ∙ (ap view c.in-List.is ∙ seen_list c.in-List.items) in
    omega (arith, list_length v c.in-List.items.items tree)

pub returns-then-is_some-clause-next : goal.returns-then-is_some-clause-next
returns-then-is_some-clause-next c =
    c.in_ok-next.ensures.next (value_of c.args.nodes.now c.args.node)
