use Rattle.std.proofs.Common.{arith}
use Rattle.std.proofs.lemmas.List.Elements.{All-more}
use Rattle.facet_solver_reader.specs.declared.plan.PlannedName.{PlannedName}
use Rattle.facet_solver_checker.specs.Atoms.{NamesUnit}
use Rattle.facet_solver_checker.proofs.Loops.{all_done}
use Rattle.facet_solver_checker.proofs.texts.names_no_unit.Goals as goal

pub loop-name-preserved : goal.loop-name-preserved
loop-name-preserved c =
    All-more (λ (p : PlannedName). NamesUnit c.args.word.now p → ⊥) c.args.names.now
    c.loop-name.name-index _ c.loop-name-test.true c.loop-name.invariant
    (c.is_no_unit.ensures c.if-not-is_no_unit.false)

pub returns : goal.returns
returns c = λ h.
    all_done (λ (p : PlannedName). NamesUnit c.args.word.now p → ⊥) c.args.names.now
    c.loop-name.name-index (omega (arith, c.loop-name-test.false)) c.loop-name.invariant
