use Rattle.std.proofs.Common.{ap, subst}
use Rattle.facet_solver_types.specs.CataloguedTypes.{catalogue_of}
use Rattle.facet_solver_types.specs.DeclaredEntries.{type_entries}
use Rattle.facet_solver_types.specs.GivenTypes.{GivesTypes}
use Rattle.facet_solver_types.specs.Mentions.{mention_view}
use Rattle.facet_solver_types.specs.TypeEntries.{entries_view}
use Rattle.facet_solver_types.specs.Understood.{declarations_view}
use Rattle.facet_solver_types.proofs.ParsedTexts.{passed_whole}
use Rattle.facet_solver_types.proofs.parsed.stages.rooted_types.Goals as goal

pub returns : goal.returns
returns c =
    let declarations = declarations_view c.args.declarations.list.now in
    let root = mention_view c.args.root in
    let entries = entries_view c.deref.result.now in
    passed_whole (type_entries declarations root.uses root.entries)
    (λ entries. catalogue_of declarations entries root.id)
    (entries_view c.in_ok-entries.entries.items) entries
    c.in_ok-entries.ensures (ap entries_view c.deref.ensures.value) c.catalogue_of.result
    (subst (λ id. GivesTypes (catalogue_of declarations entries id) c.catalogue_of.result) c.as_str.ensures.value c.catalogue_of.ensures)
