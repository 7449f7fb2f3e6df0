use Rattle.std.proofs.Common.{◌≡◌, ◌∙◌, IfOk, map, ap, subst}
use Rattle.facet_solver_shape.specs.Names.{names_of}
use Rattle.facet_solver_types.specs.CataloguedTypes.{parts_view, types_by}
use Rattle.facet_solver_types.specs.TypeTables.{table_view}
use Rattle.facet_solver_types.specs.TypeEntries.{entry_view}
use Rattle.facet_solver_types.specs.TypesViews.{Types}
use Rattle.facet_solver_types.proofs.catalogue.parts.types_in.Goals as goal

pub returns : goal.returns
returns c =
    let table = table_view c.args.table in
    let entries = map (λ e. entry_view e.now) c.args.entries.now in
    let same = ap (λ order. types_by table order entries c.args.root.now)
    (ap names_of c.in_ok-order.ensures ∙ c.in_ok-ids.ensures) in
    subst (λ (t : Types). IfOk c.types_by.result (λ parts. parts_view parts ≡ t)) same c.types_by.ensures
