use Rattle.std.proofs.Common.{◌∙◌}
use Rattle.facet_solver_types.specs.AttributeLists.{entered}
use Rattle.facet_solver_types.specs.Attributes.{attribute_view}
use Rattle.facet_solver_types.specs.Entries.{entry_view}
use Rattle.facet_solver_types.proofs.GatheringTurns.{gathering_turn}
use Rattle.facet_solver_types.proofs.attribute.list.attributes_of.Goals as goal

pub loop-entry-preserved : goal.loop-entry-preserved
loop-entry-preserved c =
    let l = c.loop-entry in
    l.invariant
    ∙ gathering_turn entry_view attribute_view c.args.entries.now l.entry-index _
    c.loop-entry-test.true (entered c.args.subject) l.found c.in_ok-more.more c.append.new.self
    c.deref.result.now c.deref.ensures.value c.in_ok-more.ensures c.in_ok-append.ensures.values
    c.in_ok-append.ensures.faults
