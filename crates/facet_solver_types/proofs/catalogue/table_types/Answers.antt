use Rattle.std.proofs.Common.{◌∙◌, Result, ap, subst}
use Rattle.facet_solver_types.specs.CataloguedTypes.{shaped}
use Rattle.facet_solver_types.specs.Failures.{Failure}
use Rattle.facet_solver_types.specs.GivenTypes.{GivesTypes}
use Rattle.facet_solver_types.specs.TypeTables.{table_view}
use Rattle.facet_solver_types.specs.Links.{links_view}
use Rattle.facet_solver_types.specs.TypesViews.{Types}
use Rattle.facet_solver_types.proofs.catalogue.table_types.Goals as goal

pub returns : goal.returns
returns c =
    let table = table_view c.args.table in
    let same = ap (λ ns. shaped table ns c.args.root.now) (ap links_view c.deref.ensures.value ∙ c.in_ok-needs.ensures) in
    subst (λ (o : Result Types Failure). GivesTypes o c.shaped.result) same c.shaped.ensures
