use Rattle.std.proofs.Common.{arith}
use Rattle.std.proofs.lemmas.List.Elements.{All-more}
use Rattle.facet_solver_checker.specs.VariantsApart.{IsWholeAtom}
use Rattle.facet_solver_checker.proofs.Loops.{all_done}
use Rattle.facet_solver_checker.proofs.variants.read_wholes.Goals as goal

pub loop-atom-preserved : goal.loop-atom-preserved
loop-atom-preserved c =
    All-more (IsWholeAtom c.args.plan.now c.args.range) c.args.atoms.now c.loop-atom.atom-index _
    c.loop-atom-test.true c.loop-atom.invariant
    (c.reads_wholes.ensures c.if-not-reads_wholes.false)

pub returns : goal.returns
returns c = λ h.
    all_done (IsWholeAtom c.args.plan.now c.args.range) c.args.atoms.now c.loop-atom.atom-index
    (omega (arith, c.loop-atom-test.false)) c.loop-atom.invariant
