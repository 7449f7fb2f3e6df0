use Rattle.std.proofs.Common.{◌≡◌, sym, ap, ◌∙◌, arith, length, refl}
use Rattle.std.proofs.lemmas.Option.{slice_get_read}
use Rattle.facet_solver_reader.specs.Tables.{ShapeIsServed}
use Rattle.facet_solver_reader.specs.Documents.{Tree, list, items_view, view}
use Rattle.facet_solver_reader.specs.Nodes.{value_of}
use Rattle.facet_solver_reader.proofs.InMemory.{at_index, list_length}
use Rattle.facet_solver_reader.proofs.Seen.{seen_list}
use Rattle.facet_solver_reader.proofs.why.walk.in_tuple.Goals as goal

pub child-item-requires-clause-index_in_range : goal.child-item-requires-clause-index_in_range
child-item-requires-clause-index_in_range c =
    let v : Tree = value_of c.args.nodes.now c.args.node in
    let tree : v ≡ list (items_view c.in-List.items.items) =
    sym c.value.ensures ∙ (ap view c.in-List.is ∙ seen_list c.in-List.items) in
    omega (arith, list_length v c.in-List.items.items tree)

pub returns-then-is_some-clause-next : goal.returns-then-is_some-clause-next
returns-then-is_some-clause-next c =
    c.in_ok-next.ensures.next (value_of c.args.nodes.now c.args.node)

pub into-requires-clause-served : goal.into-requires-clause-served
into-requires-clause-served c =
    let xs = c.args.shapes.now in
    let i = c.loop-index.index in
    at_index (ShapeIsServed c.args.tables.now) xs i c.index-shapes-index.result
    (slice_get_read xs (length xs) i c.index-shapes-index.result refl c.loop-index-test.true
    c.index-shapes-index.is)
    c.requires.served
