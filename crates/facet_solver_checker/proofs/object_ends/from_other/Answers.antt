use Rattle.std.proofs.Common.{IsTrue, subst, sym}
use Rattle.std.proofs.lemmas.Result.{IfOk-weaker}
use Rattle.facet_solver_reader.specs.declared.plan.PlannedEnd.{PlannedEnd}
use Rattle.facet_solver_reader.specs.declared.plan.PlannedEnd.TheVariants as planned
use Rattle.facet_solver_checker.specs.Apartness.{ObjectsApart}
use Rattle.facet_solver_checker.proofs.object_ends.from_other.Goals as goal

pub returns-in-Object : goal.returns-in-Object
returns-in-Object c =
    let plan = c.args.plan.now in
    let apart = c.args.apart.now in
    let e = c.args.first.now in
    IfOk-weaker c.to_parts.result
    (λ b. IsTrue b → ObjectsApart plan apart e (planned.Object c.in-Object.list))
    (λ b. IsTrue b → ObjectsApart plan apart e c.args.second.now)
    (λ b g h.
    subst (λ (p : PlannedEnd). ObjectsApart plan apart e p) (sym c.in-Object.is) (g h))
    c.to_parts.ensures

pub returns-in_default : goal.returns-in_default
returns-in_default c = λ h. c.without_parts.ensures h c.args.plan.now
