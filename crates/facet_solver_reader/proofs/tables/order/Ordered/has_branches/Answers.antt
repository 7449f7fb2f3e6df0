use Rattle.std.proofs.Common.{arith, refl}
use Rattle.facet_solver_reader.specs.declared.part.Part.{Part}
use Rattle.facet_solver_reader.specs.Placing.{PartIsPlaced}
use Rattle.facet_solver_reader.specs.Views.{part_view}
use Rattle.facet_solver_reader.proofs.LeftLists.{all_viewed, each_more}
use Rattle.facet_solver_reader.proofs.tables.order.Ordered.has_branches.Goals as goal

pub loop-part-preserved : goal.loop-part-preserved
loop-part-preserved c = λ shapes listed.
    each_more (λ (p : Part). PartIsPlaced shapes c.args.self.now (part_view p)) c.args.parts.now c.loop-part.part-index c.part-item.result
    c.loop-part-test.true c.part-item.is (c.loop-part.invariant shapes listed) (c.if-not-has_branches_of.ensures.all shapes listed refl)

pub returns-clause-all : goal.returns-clause-all
returns-clause-all c = λ shapes listed t.
    all_viewed part_view (PartIsPlaced shapes c.args.self.now) c.args.parts.now c.loop-part.part-index (omega (arith, c.loop-part-test.false)) (c.loop-part.invariant shapes listed)
