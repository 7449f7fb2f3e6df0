use Rattle.std.proofs.Common.{◌≡◌, IsTrue, List, None, Some, length, refl, slice_get, subst, sym}
use Rattle.std.proofs.lemmas.Option.{slice_get_past, slice_get_read}
use Rattle.std.proofs.lemmas.Result.{IfOk-weaker}
use Rattle.facet_solver_reader.specs.declared.plan.PlannedEnd.TheVariants as planned
use Rattle.facet_solver_reader.specs.declared.plan.PlannedTarget.{PlannedTarget}
use Rattle.facet_solver_checker.specs.Apartness.{EndApart, EndsApart}
use Rattle.facet_solver_checker.proofs.EndsApart.{none_second, plain_second}
use Rattle.facet_solver_checker.proofs.closed.end_apart.Goals as goal

pub returns-in-Null : goal.returns-in-Null
returns-in-Null c =
    let plan = c.args.plan.now in
    let apart = c.args.apart.now in
    let e = c.args.first.now in
    IfOk-weaker c.ends_apart.result (λ b. IsTrue b → EndsApart plan apart e planned.Null)
    (λ b. IsTrue b → EndApart plan apart e c.args.second)
    (λ b f h. subst (EndApart plan apart e) (sym c.in-Null.is) (f h)) c.ends_apart.ensures

pub returns-in-Some : goal.returns-in-Some
returns-in-Some c =
    let plan = c.args.plan.now in
    let apart = c.args.apart.now in
    let e = c.args.first.now in
    let n = c.in-Plain.number in
    let t = c.in-Some.target.now in
    let look = c.in-Some.ensures.lookup in
    let found : slice_get plan.targets.items n ≡ Some t =
    subst (λ (ts : List PlannedTarget). slice_get ts n ≡ Some t) c.deref.ensures.value
    (slice_get_read c.deref.result.now (length c.deref.result.now) n t refl look.3.0 look.1) in
    IfOk-weaker c.ends_apart-in-Some.result (λ b. IsTrue b → EndsApart plan apart e t.end)
    (λ b. IsTrue b → EndApart plan apart e c.args.second)
    (λ b f h.
    subst (EndApart plan apart e) (sym c.in-Plain.is) (plain_second plan apart e n t found (f h)))
    c.ends_apart-in-Some.ensures

pub returns-in-None : goal.returns-in-None
returns-in-None c = λ h.
    let plan = c.args.plan.now in
    let apart = c.args.apart.now in
    let e = c.args.first.now in
    let n = c.in-Plain.number in
    let none : slice_get plan.targets.items n ≡ None =
    subst (λ (ts : List PlannedTarget). slice_get ts n ≡ None) c.deref.ensures.value
    (slice_get_past c.deref.result.now n c.in-None.ensures.lookup.3) in
    subst (EndApart plan apart e) (sym c.in-Plain.is) (none_second plan apart e n none)

pub returns-in-Joined : goal.returns-in-Joined
returns-in-Joined c =
    let plan = c.args.plan.now in
    let apart = c.args.apart.now in
    let e = c.args.first.now in
    IfOk-weaker c.ends_apart-in-Joined.result
    (λ b. IsTrue b → EndsApart plan apart e (planned.Object (Some c.in-Joined.list)))
    (λ b. IsTrue b → EndApart plan apart e c.args.second)
    (λ b f h. subst (EndApart plan apart e) (sym c.in-Joined.is) (f h))
    c.ends_apart-in-Joined.ensures
