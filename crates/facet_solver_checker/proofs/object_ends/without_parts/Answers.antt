use Rattle.std.proofs.Common.{IsTrue, Some, subst, sym}
use Rattle.facet_solver_reader.specs.declared.plan.PlannedEnd.TheVariants as planned
use Rattle.facet_solver_checker.proofs.EndsApart.{both_same, first_objects, not_both_objects}
use Rattle.facet_solver_checker.proofs.object_ends.without_parts.Goals as goal

pub returns-in-Named : goal.returns-in-Named
returns-in-Named c = λ h p.
    first_objects p c.args.apart.now c.args.first.now (planned.Named c.in-Named.names)
    c.args.second.now c.in-Named.is (c.from_names.ensures h p)

pub returns-in_default : goal.returns-in_default
returns-in_default c = λ h p.
    not_both_objects p c.args.apart.now c.args.first.now c.args.second.now
    (both_same (sym c.reads_object.ensures) (sym c.reads_object-in_default.ensures)
    (c.not_both.ensures h))
