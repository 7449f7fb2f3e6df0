use Rattle.std.proofs.Common.{All, arith}
use Rattle.std.proofs.lemmas.List.Elements.{All-more}
use Rattle.facet_solver_checker.specs.declared.atoms.Atom.{Atom}
use Rattle.facet_solver_checker.specs.Apartness.{AtomsApart}
use Rattle.facet_solver_checker.proofs.Loops.{all_done}
use Rattle.facet_solver_checker.proofs.closed.all_apart.Goals as goal

pub loop-atom-preserved : goal.loop-atom-preserved
loop-atom-preserved c =
    All-more (λ (a : Atom). All (AtomsApart c.args.plan.now c.args.apart.now a) c.args.second.now)
    c.args.first.now c.loop-atom.atom-index _ c.loop-atom-test.true c.loop-atom.invariant
    (c.in_ok-is_apart.ensures c.if-not-is_apart.false)

pub returns : goal.returns
returns c = λ h.
    all_done (λ (a : Atom). All (AtomsApart c.args.plan.now c.args.apart.now a) c.args.second.now)
    c.args.first.now c.loop-atom.atom-index (omega (arith, c.loop-atom-test.false))
    c.loop-atom.invariant
