use Rattle.std.proofs.Common.{◌∙◌, ap, sym, slice_get}
use Rattle.facet_solver_types.specs.Absences.{absence_of, found_absence}
use Rattle.facet_solver_types.specs.Links.{names_view}
use Rattle.facet_solver_types.specs.PlacedNames.{names_in}
use Rattle.facet_solver_types.specs.TypeEntries.{form_view}
use Rattle.facet_solver_types.specs.Understood.{declarations_view}
use Rattle.facet_solver_types.proofs.catalogue.absences.absence_of.Goals as goal

pub returns-in-Declared : goal.returns-in-Declared
returns-in-Declared c =
    let declarations = declarations_view c.args.declarations.now in
    let ids = names_in c.args.ids.now in
    let types = c.in-Declared.types.items in
    c.found_absence.ensures
    ∙ ap (λ found. found_absence ids found (names_view c.deref.result.now)) c.declaration_at-found.ensures
    ∙ ap (λ ts. found_absence ids (slice_get declarations c.in-Declared.index) (names_view ts)) c.deref.ensures.value
    ∙ ap (λ form. absence_of declarations ids (form_view form)) (sym c.in-Declared.is)
