use Rattle.std.proofs.Common.{sym, subst, ℕ, List, All}
use Rattle.facet_solver_reader.specs.declared.end.Content.{Content}
use Rattle.facet_solver_shape.specs.Catalogues.{Catalogue}
use Rattle.facet_solver_reader.specs.declared.tables.every.EveryList.{EveryList}
use Rattle.facet_solver_reader.specs.Met.{ContentIsMet, ShapeIsMet, StayMet}
use Rattle.facet_solver_reader.specs.Views.{content_view}
use Rattle.facet_solver_reader.proofs.Marks.{on_ok_then}
use Rattle.facet_solver_reader.proofs.tables.marks.Marks.mark_content.Goals as goal

pub returns-in-Tuple-clause-met : goal.returns-in-Tuple-clause-met
returns-in-Tuple-clause-met c =
    let every = c.args.every.now in
    let old = c.args.self.now in
    let new = c.mark_shapes.new.self in
    on_ok_then c.mark_shapes.result
    ((shapes : Catalogue) (some : EveryList) → StayMet shapes some old new (λ strict root. All (ShapeIsMet shapes strict root) c.deref.result.now))
    ((shapes : Catalogue) → StayMet shapes every old new (λ strict root. ContentIsMet shapes strict root (content_view c.args.content.now)))
    (λ f shapes strict root listed met h.
    f shapes every strict root listed
    (subst (λ (ids : List ℕ). All (ShapeIsMet shapes strict root) ids) (sym c.deref.ensures.value)
    (subst (λ (x : Content). ContentIsMet shapes strict root (content_view x)) c.in-Tuple.is met))
    h)
    c.mark_shapes.ensures.met
