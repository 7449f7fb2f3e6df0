use Rattle.std.proofs.Common.{arith, subst}
use Rattle.std.proofs.lemmas.List.Elements.{All-more}
use Rattle.facet_solver_checker.specs.Touched.{BearsOutBranches}
use Rattle.facet_solver_checker.proofs.Loops.{all_done}
use Rattle.facet_solver_checker.proofs.touched.Touched.parts_bear_out.Goals as goal

pub loop-part-preserved : goal.loop-part-preserved
loop-part-preserved c =
    let P = BearsOutBranches c.args.self.now.flags.items in
    All-more P c.args.parts.now c.loop-part.part-index c.part-item.result c.loop-part-test.true
    c.loop-part.invariant
    (subst P c.part-item.is (c.part_bears_out.ensures c.if-not-part_bears_out.false))

pub returns : goal.returns
returns c = λ h.
    all_done (BearsOutBranches c.args.self.now.flags.items) c.args.parts.now
    c.loop-part.part-index (omega (arith, c.loop-part-test.false)) c.loop-part.invariant
