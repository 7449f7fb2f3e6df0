use Rattle.std.proofs.Common.{◌≡◌, ap, arith, sym, ◌∙◌}
use Rattle.facet_solver_reader.specs.Documents.{Tree, members_view, object, view}
use Rattle.facet_solver_reader.specs.Nodes.{value_of}
use Rattle.facet_solver_reader.proofs.InMemory.{only_member}
use Rattle.facet_solver_reader.proofs.Seen.{seen_object}
use Rattle.facet_solver_reader.proofs.why.named.none_in_named.Goals as goal

pub into_content-requires-clause-single : goal.into_content-requires-clause-single
into_content-requires-clause-single c =
    let v : Tree = value_of c.args.nodes.now c.args.node in
    let tree : v ≡ object (members_view c.as_slice.result.now) =
    sym c.value.ensures ∙ (ap view c.in-Object.is ∙ (seen_object c.in-Object.members
    ∙ ap (λ xs. object (members_view xs)) (sym c.as_slice.ensures.value))) in
    only_member v c.as_slice.result.now c.index-name-0.result tree (omega arith)

pub returns-then-is_some-clause-next : goal.returns-then-is_some-clause-next
returns-then-is_some-clause-next c =
    c.in_ok-next-in-len1.ensures.next (value_of c.args.nodes.now c.args.node)
