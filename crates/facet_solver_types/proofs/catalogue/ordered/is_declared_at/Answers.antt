use Rattle.std.proofs.Common.{◌≡◌, ◌∙◌, Bool, Option, ap, false, sym}
use Rattle.std.specs.Option.{option_map_or}
use Rattle.facet_solver_types.specs.CataloguedTypes.{is_declared}
use Rattle.facet_solver_types.specs.TypeEntries.{TypeEntry, entries_view}
use Rattle.facet_solver_types.proofs.DeclaredPlaces.{declared_here}
use Rattle.facet_solver_types.proofs.catalogue.ordered.is_declared_at.Goals as goal

-- whether a type is declared, if there is one
abbrev told : Option TypeEntry → Bool
told entry = option_map_or (λ (e : TypeEntry). is_declared e.form) entry false

pub returns-in-Some : goal.returns-in-Some
returns-in-Some c =
    c.is_declared.ensures
    ∙ sym (declared_here c.args.place (entries_view c.args.entries.now) ∙ ap told (sym c.in-Some.ensures))

pub returns-in-None : goal.returns-in-None
returns-in-None c =
    sym (declared_here c.args.place (entries_view c.args.entries.now) ∙ ap told (sym c.in-None.ensures))
