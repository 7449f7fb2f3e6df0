use Rattle.std.proofs.lemmas.Result.{IfOk-weaker}
use Rattle.facet_solver_types.specs.AttributeLists.{attributes_view, next_attribute}
use Rattle.facet_solver_types.specs.Attributes.{attribute_view}
use Rattle.facet_solver_types.specs.Entries.{entry_view}
use Rattle.facet_solver_types.proofs.GatheringTurns.{told_seen}
use Rattle.facet_solver_types.proofs.attribute.list.entered.Goals as goal

pub returns : goal.returns
returns c =
    let outcome = next_attribute c.args.subject (attributes_view c.args.found.now)
    (entry_view c.args.entry.now) in
    IfOk-weaker c.told.result _ _
    (λ made is. told_seen attribute_view outcome c.next_attribute.result made
    c.next_attribute.ensures is) c.told.ensures
