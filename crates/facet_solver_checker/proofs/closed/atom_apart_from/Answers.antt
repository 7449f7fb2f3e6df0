use Rattle.std.proofs.Common.{arith}
use Rattle.std.proofs.lemmas.List.Elements.{All-more}
use Rattle.facet_solver_checker.specs.Apartness.{AtomsApart}
use Rattle.facet_solver_checker.proofs.Loops.{all_done}
use Rattle.facet_solver_checker.proofs.closed.atom_apart_from.Goals as goal

pub loop-atom-preserved : goal.loop-atom-preserved
loop-atom-preserved c =
    All-more (AtomsApart c.args.plan.now c.args.apart.now c.args.first) c.args.second.now
    c.loop-atom.atom-index _ c.loop-atom-test.true c.loop-atom.invariant
    (c.in_ok-is_apart.ensures c.if-not-is_apart.false)

pub returns : goal.returns
returns c = λ h.
    all_done (AtomsApart c.args.plan.now c.args.apart.now c.args.first) c.args.second.now
    c.loop-atom.atom-index (omega (arith, c.loop-atom-test.false)) c.loop-atom.invariant
