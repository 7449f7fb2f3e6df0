use Rattle.facet_solver_checker.specs.Ways.{taken_at}
use Rattle.facet_solver_checker.proofs.Gathering.{joined_more}
use Rattle.facet_solver_checker.proofs.ways.taken_of.Goals as goal

pub loop-number-preserved : goal.loop-number-preserved
loop-number-preserved c =
    joined_more (taken_at c.args.plan.now.shapes.now c.args.plan.now.lists.items c.args.name.now)
    c.args.left.now c.loop-number.number-index 0 c.loop-number.targets.items
    c.push_taken_at.new.targets.items c.loop-number-test.true
    c.loop-number.invariant c.in_ok-push_taken_at.ensures
