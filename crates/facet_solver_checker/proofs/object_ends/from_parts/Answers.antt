use Rattle.std.proofs.Common.{◌∙◌, IsTrue, Option, Some, ℕ, subst, sym}
use Rattle.std.proofs.lemmas.Result.{IfOk-weaker}
use Rattle.facet_solver_reader.specs.declared.plan.PlannedEnd.{PlannedEnd}
use Rattle.facet_solver_reader.specs.declared.plan.PlannedEnd.TheVariants as planned
use Rattle.facet_solver_checker.specs.Apartness.{ObjectsApart}
use Rattle.facet_solver_checker.proofs.EndsApart.{no_other_object}
use Rattle.facet_solver_checker.proofs.object_ends.from_parts.Goals as goal

pub returns-in-Object : goal.returns-in-Object
returns-in-Object c =
    let plan = c.args.plan.now in
    let apart = c.args.apart.now in
    IfOk-weaker c.between_parts.result
    (λ b. IsTrue b
    → ObjectsApart plan apart (planned.Object (Some c.in-Some.list))
    (planned.Object c.in-Object.other))
    (λ b. IsTrue b → ObjectsApart plan apart (planned.Object c.args.list) c.args.end.now)
    (λ b f h.
    subst (λ (l : Option ℕ). ObjectsApart plan apart (planned.Object l) c.args.end.now)
    (sym c.in-Some.is)
    (subst (λ (e : PlannedEnd). ObjectsApart plan apart (planned.Object (Some c.in-Some.list)) e)
    (sym c.in-Object.is) (f h))) c.between_parts.ensures

pub returns-then-reads_object : goal.returns-then-reads_object
returns-then-reads_object c =
    let plan = c.args.plan.now in
    let apart = c.args.apart.now in
    let e = c.args.end.now in
    IfOk-weaker c.list_apart_from.result
    (λ b. IsTrue b → ObjectsApart plan apart (planned.Object (Some c.in-Some.list)) e)
    (λ b. IsTrue b → ObjectsApart plan apart (planned.Object c.args.list) e)
    (λ b f h.
    subst (λ (l : Option ℕ). ObjectsApart plan apart (planned.Object l) e) (sym c.in-Some.is) (f h))
    c.list_apart_from.ensures

pub returns-else-reads_object : goal.returns-else-reads_object
returns-else-reads_object c = λ h.
    no_other_object c.args.plan.now c.args.apart.now (planned.Object c.args.list) c.args.end.now
    (sym c.reads_object.ensures ∙ c.if-reads_object.false)
