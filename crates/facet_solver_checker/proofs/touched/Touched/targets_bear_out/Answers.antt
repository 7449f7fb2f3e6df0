use Rattle.std.proofs.Common.{arith, subst}
use Rattle.std.proofs.lemmas.List.Elements.{All-more}
use Rattle.facet_solver_reader.specs.declared.plan.PlannedTarget.{PlannedTarget}
use Rattle.facet_solver_checker.specs.Touched.{BearsOutEnd}
use Rattle.facet_solver_checker.proofs.Loops.{all_done}
use Rattle.facet_solver_checker.proofs.touched.Touched.targets_bear_out.Goals as goal

pub loop-target-preserved : goal.loop-target-preserved
loop-target-preserved c =
    let P = λ (t : PlannedTarget). BearsOutEnd c.args.self.now.flags.items t.end in
    All-more P c.args.targets.now c.loop-target.target-index c.target-item.result
    c.loop-target-test.true c.loop-target.invariant
    (subst P c.target-item.is (c.target_bears_out.ensures c.if-not-target_bears_out.false))

pub returns : goal.returns
returns c = λ h.
    all_done (λ (t : PlannedTarget). BearsOutEnd c.args.self.now.flags.items t.end)
    c.args.targets.now c.loop-target.target-index (omega (arith, c.loop-target-test.false))
    c.loop-target.invariant
