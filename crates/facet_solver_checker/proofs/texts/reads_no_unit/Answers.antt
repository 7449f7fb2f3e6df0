use Rattle.std.proofs.Common.{arith}
use Rattle.std.proofs.lemmas.List.Elements.{All-more}
use Rattle.facet_solver_checker.specs.Apartness.{IsNoUnit}
use Rattle.facet_solver_checker.proofs.Loops.{all_done}
use Rattle.facet_solver_checker.proofs.texts.reads_no_unit.Goals as goal

pub loop-name-preserved : goal.loop-name-preserved
loop-name-preserved c =
    All-more (IsNoUnit c.args.end.now) c.args.names.now c.loop-name.name-index _
    c.loop-name-test.true c.loop-name.invariant
    (c.reads_no_text_of.ensures c.if-not-reads_no_text_of.false)

pub returns : goal.returns
returns c = λ h.
    all_done (IsNoUnit c.args.end.now) c.args.names.now c.loop-name.name-index
    (omega (arith, c.loop-name-test.false)) c.loop-name.invariant
