use Rattle.std.proofs.Common.{IsTrue}
use Rattle.std.proofs.lemmas.Result.{IfOk-weaker}
use Rattle.facet_solver_reader.specs.declared.plan.PlannedEnd.TheVariants as planned
use Rattle.facet_solver_checker.specs.Apartness.{ObjectsApart}
use Rattle.facet_solver_checker.proofs.EndsApart.{first_objects}
use Rattle.facet_solver_checker.proofs.object_ends.ends_objects_apart.Goals as goal

pub returns-in-Object : goal.returns-in-Object
returns-in-Object c =
    let plan = c.args.plan.now in
    let apart = c.args.apart.now in
    let e = c.args.first.now in
    let f = c.args.second.now in
    IfOk-weaker c.from_parts.result
    (λ b. IsTrue b → ObjectsApart plan apart (planned.Object c.in-Object.list) f)
    (λ b. IsTrue b → ObjectsApart plan apart e f)
    (λ b g h. first_objects plan apart e (planned.Object c.in-Object.list) f c.in-Object.is (g h))
    c.from_parts.ensures
