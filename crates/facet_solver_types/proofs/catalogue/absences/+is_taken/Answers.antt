use Rattle.std.proofs.Common.{◌∙◌, ◌-◌, ap, sym}
use Rattle.facet_solver_types.specs.Absences.{is_taken}
use Rattle.facet_solver_types.proofs.Absences.{passed_on, passed_over, refused_there, taken_there}
use Rattle.facet_solver_types.proofs.catalogue.absences.+is_taken.Goals as goal

pub returns-in-Taken : goal.returns-in-Taken
returns-in-Taken t c =
    let absences = c.args.absences.now in
    sym (ap (is_taken absences c.args.times) c.in-Taken.is ∙ taken_there absences c.args.times)

pub returns-in-Refused : goal.returns-in-Refused
returns-in-Refused t c =
    let absences = c.args.absences.now in
    sym (ap (is_taken absences c.args.times) c.in-Refused.is ∙ refused_there absences c.args.times)

pub returns-then-times-eq0 : goal.returns-then-times-eq0
returns-then-times-eq0 t c =
    let absences = c.args.absences.now in
    sym (ap (is_taken absences c.args.times) c.in-Passed.is
    ∙ passed_over absences c.args.times c.in-Passed.place c.if-times-eq0.true)

pub returns-else-times-eq0 : goal.returns-else-times-eq0
returns-else-times-eq0 t c =
    let absences = c.args.absences.now in
    c.is_taken.ensures
    ∙ ap (is_taken absences (c.args.times - 1)) c.absence_at.ensures
    ∙ sym (ap (is_taken absences c.args.times) c.in-Passed.is
    ∙ passed_on absences c.args.times c.in-Passed.place c.if-times-eq0.false)
