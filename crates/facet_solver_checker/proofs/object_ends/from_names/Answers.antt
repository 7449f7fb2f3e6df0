use Rattle.std.proofs.Common.{List, subst}
use Rattle.facet_solver_reader.specs.declared.plan.PlannedEnd.TheVariants as planned
use Rattle.facet_solver_reader.specs.declared.plan.PlannedName.{PlannedName}
use Rattle.facet_solver_checker.specs.Apartness.{NamesApart}
use Rattle.facet_solver_checker.proofs.EndsApart.{names_and_names, no_other_object}
use Rattle.facet_solver_checker.proofs.TextsApart.{refused}
use Rattle.facet_solver_checker.proofs.object_ends.from_names.Goals as goal

pub returns-in-Named : goal.returns-in-Named
returns-in-Named c = λ h p.
    let apart = c.args.apart.now in
    names_and_names p apart c.args.names.now c.in-Named.others c.args.end.now c.in-Named.is
    (subst (λ (ps : List PlannedName). NamesApart apart ps c.in-Named.others.items)
    c.deref.ensures.value
    (subst (λ (qs : List PlannedName). NamesApart apart c.deref.result.now qs)
    c.deref-in-Named.ensures.value (c.names_apart.ensures h)))

pub returns-in_default : goal.returns-in_default
returns-in_default c = λ h p.
    no_other_object p c.args.apart.now (planned.Named c.args.names.now) c.args.end.now
    (refused c.reads_object.result _ c.reads_object.ensures h)
