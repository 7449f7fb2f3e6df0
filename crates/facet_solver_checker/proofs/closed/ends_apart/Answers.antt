use Rattle.std.proofs.Common.{IsTrue}
use Rattle.std.proofs.lemmas.Result.{IfOk-weaker}
use Rattle.facet_solver_checker.specs.Apartness.{EndsApart, ObjectsApart}
use Rattle.facet_solver_checker.proofs.EndsApart.{ends_apart}
use Rattle.facet_solver_checker.proofs.closed.ends_apart.Goals as goal

pub returns : goal.returns
returns c =
    let plan = c.args.plan.now in
    let apart = c.args.apart.now in
    let e = c.args.first.now in
    let f = c.args.second.now in
    IfOk-weaker c.ends_objects_apart.result (λ b. IsTrue b → ObjectsApart plan apart e f)
    (λ b. IsTrue b → EndsApart plan apart e f)
    (λ b g h.
    ends_apart plan apart e f (c.have_no_simple-simple.ensures c.if-not-simple.false)
    (c.texts_apart-texts.ensures c.if-not-texts.false)
    (c.lists_apart-lists.ensures c.if-not-lists.false plan) (g h)) c.ends_objects_apart.ensures
