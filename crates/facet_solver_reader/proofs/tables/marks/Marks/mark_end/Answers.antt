use Rattle.std.proofs.Common.{inl, inr, sym, subst, ℕ, List, All}
use Rattle.facet_solver_shape.specs.Catalogues.{Catalogue}
use Rattle.facet_solver_reader.specs.declared.end.End.{End}
use Rattle.facet_solver_reader.specs.declared.tables.every.EveryList.{EveryList}
use Rattle.facet_solver_reader.specs.Marks.{AreAdded}
use Rattle.facet_solver_reader.specs.Met.{EndIsMet, ShapeIsMet, StayMet}
use Rattle.facet_solver_reader.specs.Views.{end_view}
use Rattle.facet_solver_reader.proofs.Marks.{added_on, on_ok_then}
use Rattle.facet_solver_reader.proofs.tables.marks.Marks.mark_end.Goals as goal

pub returns-in_ok-mark_list-in-UntaggedVariant-clause-added : goal.returns-in_ok-mark_list-in-UntaggedVariant-clause-added
returns-in_ok-mark_list-in-UntaggedVariant-clause-added c =
    let every = c.args.every.now in
    let mid = c.mark_list-in-UntaggedVariant.new.self in
    let new = c.mark_alone.new.self in
    on_ok_then c.mark_alone.result (AreAdded every mid new) (AreAdded every c.args.self.now new)
    (added_on every c.args.self.now mid new c.in_ok-mark_list-in-UntaggedVariant.ensures.added) c.mark_alone.ensures.added

pub returns-in-Tuple-clause-met : goal.returns-in-Tuple-clause-met
returns-in-Tuple-clause-met c =
    let types = c.args.types.now in
    let every = c.args.every.now in
    let old = c.args.self.now in
    let new = c.mark_shapes.new.self in
    on_ok_then c.mark_shapes.result
    ((shapes : Catalogue) (some : EveryList) → StayMet shapes some old new (λ strict root. All (ShapeIsMet shapes strict root) c.deref.result.now))
    (StayMet types every old new (λ strict root. EndIsMet types strict root (end_view c.args.end.now)))
    (λ f strict root listed met h.
    f types every strict root listed
    (subst (λ (ids : List ℕ). All (ShapeIsMet types strict root) ids) (sym c.deref.ensures.value)
    (subst (λ (x : End). EndIsMet types strict root (end_view x)) c.in-Tuple.is met))
    h)
    c.mark_shapes.ensures.met

pub returns-in-Option-clause-met : goal.returns-in-Option-clause-met
returns-in-Option-clause-met c =
    let types = c.args.types.now in
    let every = c.args.every.now in
    let old = c.args.self.now in
    let new = c.mark_shape.new.self in
    on_ok_then c.mark_shape.result
    ((shapes : Catalogue) (some : EveryList) → StayMet shapes some old new (λ strict root. ShapeIsMet shapes strict root c.in-Option.id))
    (StayMet types every old new (λ strict root. EndIsMet types strict root (end_view c.args.end.now)))
    (λ f strict root listed met h.
    f types every strict root listed
    (elim c.in-Option.is [
      | inl e ↦ subst (λ (x : End). EndIsMet types strict root (end_view x)) e met
      | inr e ↦ elim e [
        | inl e ↦ subst (λ (x : End). EndIsMet types strict root (end_view x)) e met
        | inr e ↦ subst (λ (x : End). EndIsMet types strict root (end_view x)) e.1 met
      ]
    ])
    h)
    c.mark_shape.ensures.met
