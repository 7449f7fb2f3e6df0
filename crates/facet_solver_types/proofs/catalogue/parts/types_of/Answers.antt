use Rattle.std.proofs.Common.{◌≡◌, ◌∙◌, IfOk, map, ap, subst}
use Rattle.facet_solver_types.specs.CataloguedTypes.{parts_view, types_in}
use Rattle.facet_solver_types.specs.TypeTables.{table_view}
use Rattle.facet_solver_types.specs.TypeEntries.{entry_view}
use Rattle.facet_solver_types.specs.TypesViews.{Types}
use Rattle.facet_solver_types.proofs.catalogue.parts.types_of.Goals as goal

pub returns : goal.returns
returns c =
    let table = table_view c.args.table in
    let same = ap (λ es. types_in table es c.args.root.now)
    (ap (λ es. map (λ e. entry_view e.now) es) c.deref.ensures.value ∙ c.in_ok-entries.ensures) in
    subst (λ (t : Types). IfOk c.types_in.result (λ parts. parts_view parts ≡ t)) same c.types_in.ensures
