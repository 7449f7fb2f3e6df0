use Rattle.std.proofs.Common.{◌∙◌, All, ℕ, arith, subst}
use Rattle.std.specs.Prelude.{List}
use Rattle.std.proofs.lemmas.List.Elements.{All-more}
use Rattle.facet_solver_checker.specs.Apartness.{AreTargetsApart}
use Rattle.facet_solver_checker.proofs.ClosedTables.{bears_out, table_closed}
use Rattle.facet_solver_checker.proofs.Loops.{all_done}
use Rattle.facet_solver_checker.proofs.closed.is_closed.Goals as goal

pub loop-pair-preserved : goal.loop-pair-preserved
loop-pair-preserved c =
    All-more (λ (p : ℕ × ℕ). AreTargetsApart c.args.plan.now c.args.apart.now c.args.atoms.now p.0
    p.1)
    c.deref-pair-items.result.now c.loop-pair.pair-index _ c.loop-pair-test.true
    c.loop-pair.invariant (c.in_ok-is_apart.ensures c.if-not-is_apart.false)

pub returns : goal.returns
returns c = λ h m is.
    let plan = c.args.plan.now in
    let apart = c.args.apart.now in
    let atoms = c.args.atoms.now in
    table_closed plan apart atoms c.requires.atoms m is c.requires.targets
    (bears_out plan apart atoms
    (subst (λ (ps : List (ℕ × ℕ)). All (λ (p : ℕ × ℕ). AreTargetsApart plan apart atoms p.0 p.1) ps)
    (c.deref-pair-items.ensures.value ∙ c.in_ok-pairs.ensures)
    (all_done (λ (p : ℕ × ℕ). AreTargetsApart plan apart atoms p.0 p.1)
    c.deref-pair-items.result.now
    c.loop-pair.pair-index (omega (arith, c.loop-pair-test.false)) c.loop-pair.invariant)))
