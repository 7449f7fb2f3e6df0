use Rattle.facet_solver_checker.specs.Inners.{inners_at}
use Rattle.facet_solver_checker.proofs.Gathering.{joined_more}
use Rattle.facet_solver_checker.proofs.inners.inners_of_all.Goals as goal

pub loop-number-preserved : goal.loop-number-preserved
loop-number-preserved c =
    joined_more (inners_at c.args.lists.now) c.args.numbers.now c.loop-number.number-index 0
    c.loop-number.inners.items c.push_inners.new.inners.items c.loop-number-test.true
    c.loop-number.invariant c.in_ok-push_inners.ensures
