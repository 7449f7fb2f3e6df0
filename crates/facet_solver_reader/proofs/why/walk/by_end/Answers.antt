use Rattle.std.proofs.Common.{◌≡◌, ap, subst, sym, ◌∙◌}
use Rattle.facet_solver_reader.specs.Nodes.{value_of}
use Rattle.facet_solver_reader.specs.Rules.{a_tuple}
use Rattle.facet_solver_reader.specs.Tables.{EndIsServed}
use Rattle.facet_solver_reader.specs.Views.{end_view}
use Rattle.facet_solver_reader.proofs.why.walk.by_end.Goals as goal

pub returns-in-Option-clause-next : goal.returns-in-Option-clause-next
returns-in-Option-clause-next c =
    c.into.ensures.next (value_of c.args.nodes.now c.args.node)

pub returns-in-Map-clause-next : goal.returns-in-Map-clause-next
returns-in-Map-clause-next c =
    c.in_entries.ensures.next (value_of c.args.nodes.now c.args.node)

pub in_tuple-requires-clause-served : goal.in_tuple-requires-clause-served
in_tuple-requires-clause-served c =
    let ends : end_view c.args.end.now ≡ a_tuple c.deref.result.now =
    ap end_view c.in-Tuple.is ∙ ap a_tuple (sym c.deref.ensures.value) in
    subst (EndIsServed c.args.tables.now) ends c.requires.end.served
