use Rattle.std.proofs.Common.{All, arith}
use Rattle.std.proofs.lemmas.List.Elements.{All-more}
use Rattle.facet_solver_reader.specs.declared.plan.PlannedName.{PlannedName}
use Rattle.facet_solver_checker.specs.Apartness.{NameIsApart}
use Rattle.facet_solver_checker.proofs.Loops.{all_done}
use Rattle.facet_solver_checker.proofs.object_ends.names_apart.Goals as goal

pub loop-name-preserved : goal.loop-name-preserved
loop-name-preserved c =
    All-more (λ (p : PlannedName). All (NameIsApart c.args.apart.now p) c.args.second.now)
    c.args.first.now c.loop-name.name-index _ c.loop-name-test.true c.loop-name.invariant
    (c.name_apart.ensures c.if-not-name_apart.false)

pub returns : goal.returns
returns c = λ h.
    all_done (λ (p : PlannedName). All (NameIsApart c.args.apart.now p) c.args.second.now)
    c.args.first.now c.loop-name.name-index (omega (arith, c.loop-name-test.false))
    c.loop-name.invariant
