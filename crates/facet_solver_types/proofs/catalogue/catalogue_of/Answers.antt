use Rattle.std.proofs.Common.{◌∙◌, List, Result, ap, subst}
use Rattle.facet_solver_shape.specs.Names.{Name, names_of}
use Rattle.facet_solver_types.specs.CataloguedTypes.{table_types}
use Rattle.facet_solver_types.specs.Failures.{Failure}
use Rattle.facet_solver_types.specs.GivenTypes.{GivesTypes}
use Rattle.facet_solver_types.specs.TypeEntries.{entries_view}
use Rattle.facet_solver_types.specs.TypesViews.{Types}
use Rattle.facet_solver_types.specs.Understood.{declarations_view}
use Rattle.facet_solver_types.proofs.catalogue.catalogue_of.Goals as goal

pub returns : goal.returns
returns c =
    let declarations = declarations_view c.args.declarations.now in
    let entries = entries_view c.args.entries.now in
    let same = ap (λ (names : List Name). table_types (record {
      declarations = declarations;
      entries = entries;
      ids = names;
    }) c.args.root.now) (ap names_of c.in_ok-ids.ensures ∙ c.in_ok-found.ensures) in
    subst (λ (o : Result Types Failure). GivesTypes o c.table_types.result) same c.table_types.ensures
