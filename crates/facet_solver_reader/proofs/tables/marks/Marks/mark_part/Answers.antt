use Rattle.std.proofs.Common.{sym, subst, List, All, map}
use Rattle.facet_solver_shape.specs.Catalogues.{Catalogue}
use Rattle.facet_solver_reader.specs.declared.part.ListId.{ListId}
use Rattle.facet_solver_reader.specs.declared.part.CatchAll.{CatchAll}
use Rattle.facet_solver_reader.specs.declared.part.Part.{Part}
use Rattle.facet_solver_reader.specs.declared.part.Part.TheVariants.{CatchAll as TheCatchAll}
use Rattle.facet_solver_reader.specs.declared.tables.every.EveryList.{EveryList}
use Rattle.facet_solver_reader.specs.Met.{IfChosen, PartIsMet, ShapeIsMet, StayMet}
use Rattle.facet_solver_reader.specs.Views.{list_view, part_view}
use Rattle.facet_solver_reader.proofs.Marks.{on_ok_then}
use Rattle.facet_solver_reader.proofs.tables.marks.Marks.mark_part.Goals as goal

pub returns-in-Selection-clause-met : goal.returns-in-Selection-clause-met
returns-in-Selection-clause-met c =
    let types = c.args.types.now in
    let every = c.args.every.now in
    let old = c.args.self.now in
    let new = c.mark_lists.new.self in
    on_ok_then c.mark_lists.result
    ((shapes : Catalogue) → StayMet shapes every old new (λ strict root. All (IfChosen shapes strict root) (map list_view c.deref.result.now)))
    (StayMet types every old new (λ strict root. PartIsMet types strict root (part_view c.args.part.now)))
    (λ f strict root listed met h.
    f types strict root listed
    (subst (λ (ids : List ListId). All (IfChosen types strict root) (map list_view ids)) (sym c.deref.ensures.value)
    (subst (λ (x : Part). PartIsMet types strict root (part_view x)) c.in-Selection.is met))
    h)
    c.mark_lists.ensures.met

pub returns-in-Map-clause-met : goal.returns-in-Map-clause-met
returns-in-Map-clause-met c =
    let types = c.args.types.now in
    let every = c.args.every.now in
    let old = c.args.self.now in
    let new = c.mark_shape.new.self in
    on_ok_then c.mark_shape.result
    ((shapes : Catalogue) (some : EveryList) → StayMet shapes some old new (λ strict root. ShapeIsMet shapes strict root c.in-Map.value))
    (StayMet types every old new (λ strict root. PartIsMet types strict root (part_view c.args.part.now)))
    (λ f strict root listed met h.
    f types every strict root listed
    (subst (λ (x : CatchAll). PartIsMet types strict root (part_view (TheCatchAll x))) c.in-Map.is
    (subst (λ (x : Part). PartIsMet types strict root (part_view x)) c.in-CatchAll.is met))
    h)
    c.mark_shape.ensures.met
