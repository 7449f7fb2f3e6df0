use Rattle.facet_solver_checker.specs.PlanMembers.{targets_at}
use Rattle.facet_solver_checker.proofs.Gathering.{joined_more}
use Rattle.facet_solver_checker.proofs.members.targets_of.Goals as goal

pub loop-number-preserved : goal.loop-number-preserved
loop-number-preserved c =
    joined_more (targets_at c.args.lists.now c.args.name.now) c.args.below.now
    c.loop-number.number-index 0 c.loop-number.targets.items
    c.push_targets_at.new.targets.items c.loop-number-test.true
    c.loop-number.invariant c.in_ok-push_targets_at.ensures
