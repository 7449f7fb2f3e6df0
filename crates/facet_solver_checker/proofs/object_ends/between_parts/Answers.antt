use Rattle.std.proofs.Common.{IsTrue, Some, ap}
use Rattle.std.proofs.lemmas.Result.{IfOk-weaker}
use Rattle.facet_solver_reader.specs.declared.plan.PlannedEnd.TheVariants as planned
use Rattle.facet_solver_checker.specs.Apartness.{ObjectsApart, PartsApart}
use Rattle.facet_solver_checker.proofs.EndsApart.{parts_and_parts}
use Rattle.facet_solver_checker.proofs.PartsApart.{parts_apart}
use Rattle.facet_solver_checker.proofs.object_ends.between_parts.Goals as goal

pub returns : goal.returns
returns c =
    let plan = c.args.plan.now in
    let apart = c.args.apart.now in
    let p = c.args.list in
    let q = c.in-Some.other in
    IfOk-weaker c.objects_apart.result (λ b. IsTrue b → PartsApart plan apart p q)
    (λ b. IsTrue b
    → ObjectsApart plan apart (planned.Object (Some p)) (planned.Object c.args.other))
    (λ b f h.
    parts_and_parts plan apart p q (planned.Object c.args.other) (ap planned.Object c.in-Some.is)
    (f h))
    (parts_apart plan apart c.args.required.now.names.items p q c.requires.required
    c.objects_apart.result c.objects_apart.ensures)
