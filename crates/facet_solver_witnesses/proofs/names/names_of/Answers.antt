use Rattle.facet_solver_witnesses.specs.WayNames.{names_at}
use Rattle.facet_solver_witnesses.proofs.Joining.{joined_more}
use Rattle.facet_solver_witnesses.proofs.names.names_of.Goals as goal

pub loop-list-preserved : goal.loop-list-preserved
loop-list-preserved c =
    joined_more (names_at c.args.plan.now) c.args.lists.now c.loop-list.list-index 0
    c.loop-list.names.items c.push_name.new.names.items c.loop-list-test.true
    c.loop-list.invariant c.in_ok-push_name.ensures
