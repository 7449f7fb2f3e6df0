use Rattle.facet_solver_checker.specs.Ways.{target_taken}
use Rattle.facet_solver_checker.proofs.Gathering.{filtered_more}
use Rattle.facet_solver_checker.proofs.ways.push_taken.Goals as goal

pub loop-part-preserved : goal.loop-part-preserved
loop-part-preserved c =
    filtered_more (target_taken c.args.plan.now.shapes.now c.args.name.now) c.args.parts.now
    c.args.targets.now.items c.loop-part.part-index c.part-item.result c.loop-part.targets.items
    c.push_taken_by.new.targets.items c.loop-part-test.true c.part-item.is c.loop-part.invariant
    c.in_ok-push_taken_by.ensures
