use Rattle.std.proofs.Common.{◌∙◌, IsTrue, Option, Some, ℕ, subst, sym}
use Rattle.std.proofs.lemmas.Result.{IfOk-weaker}
use Rattle.facet_solver_reader.specs.declared.plan.PlannedEnd.TheVariants as planned
use Rattle.facet_solver_checker.specs.Apartness.{ObjectsApart}
use Rattle.facet_solver_checker.proofs.EndsApart.{no_object}
use Rattle.facet_solver_checker.proofs.object_ends.to_parts.Goals as goal

pub returns-then-reads_object : goal.returns-then-reads_object
returns-then-reads_object c =
    let plan = c.args.plan.now in
    let apart = c.args.apart.now in
    let e = c.args.end.now in
    IfOk-weaker c.end_apart_from.result
    (λ b. IsTrue b → ObjectsApart plan apart e (planned.Object (Some c.in-Some.list)))
    (λ b. IsTrue b → ObjectsApart plan apart e (planned.Object c.args.list))
    (λ b f h.
    subst (λ (l : Option ℕ). ObjectsApart plan apart e (planned.Object l)) (sym c.in-Some.is) (f h))
    c.end_apart_from.ensures

pub returns-else-reads_object : goal.returns-else-reads_object
returns-else-reads_object c = λ h.
    no_object c.args.plan.now c.args.apart.now c.args.end.now (planned.Object c.args.list)
    (sym c.reads_object.ensures ∙ c.if-reads_object.false)
