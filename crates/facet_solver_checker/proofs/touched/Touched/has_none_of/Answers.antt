use Rattle.std.proofs.Common.{◌≡◌, ◌∙◌, ℕ, arith, false, sym}
use Rattle.std.proofs.lemmas.List.Elements.{All-more}
use Rattle.facet_solver_checker.specs.Touched.{is_touched}
use Rattle.facet_solver_checker.proofs.Loops.{all_done}
use Rattle.facet_solver_checker.proofs.touched.Touched.has_none_of.Goals as goal

pub loop-list-preserved : goal.loop-list-preserved
loop-list-preserved c =
    All-more (λ (n : ℕ). is_touched c.args.self.now.flags.items n ≡ false) c.args.lists.now
    c.loop-list.list-index 0 c.loop-list-test.true c.loop-list.invariant
    (sym c.has.ensures ∙ c.if-has.false)

pub returns : goal.returns
returns c = λ h.
    all_done (λ (n : ℕ). is_touched c.args.self.now.flags.items n ≡ false) c.args.lists.now
    c.loop-list.list-index (omega (arith, c.loop-list-test.false)) c.loop-list.invariant
