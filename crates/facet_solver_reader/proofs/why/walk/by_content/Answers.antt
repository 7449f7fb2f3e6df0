use Rattle.std.proofs.Common.{◌≡◌, ap, subst, sym, ◌∙◌}
use Rattle.facet_solver_reader.specs.Nodes.{value_of}
use Rattle.facet_solver_reader.specs.Rules.{as_tuple}
use Rattle.facet_solver_reader.specs.Tables.{ContentIsServed, rules_at}
use Rattle.facet_solver_reader.specs.Views.{content_view}
use Rattle.facet_solver_reader.proofs.why.walk.by_content.Goals as goal

pub returns-in-Shape-clause-next : goal.returns-in-Shape-clause-next
returns-in-Shape-clause-next c =
    c.into.ensures.next (value_of c.args.nodes.now c.args.node)

pub in_tuple-requires-clause-served : goal.in_tuple-requires-clause-served
in_tuple-requires-clause-served c =
    let is : (rules_at c.args.tables.now).content_of c.args.shape c.args.variant
    ≡ as_tuple c.deref.result.now =
    sym c.in_ok-content.ensures ∙ (ap content_view c.in-Tuple.is
    ∙ ap as_tuple (sym c.deref.ensures.value)) in
    subst (ContentIsServed c.args.tables.now) is c.requires.served
