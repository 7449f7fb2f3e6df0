use Rattle.std.proofs.Common.{◌≡◌, All, List, Some, slice_get, refl, sym, subst, ◌∙◌}
use Rattle.std.proofs.lemmas.Option.{same_Some, slice_get_read}
use Rattle.facet_solver_reader.specs.declared.part.Part.{Part}
use Rattle.facet_solver_reader.specs.declared.tables.every.Listed.{Listed}
use Rattle.facet_solver_reader.specs.Marks.{PartIsMarked}
use Rattle.facet_solver_reader.specs.Met.{NumberIsMet, PartIsMet, StayMet}
use Rattle.facet_solver_reader.specs.Views.{list_view, parts_view}
use Rattle.facet_solver_reader.proofs.AllMet.{parts_met}
use Rattle.facet_solver_reader.proofs.Marks.{on_ok_then}
use Rattle.facet_solver_reader.proofs.tables.reached.Reached.go_through_list.Goals as goal

pub returns-clause-marked : goal.returns-clause-marked
returns-clause-marked c =
    let every = c.args.every.now in
    let x = c.index.result.now in
    let here : slice_get every.lists.items c.args.number ≡ Some x = slice_get_read every.lists.items _ c.args.number x refl c.requires c.index.ensures in
    let marked = PartIsMarked c.args.types.now every c.mark_parts.new.self in
    on_ok_then c.mark_parts.result
    (All marked (parts_view c.deref.result.now))
    ((l : Listed) → slice_get every.lists.items c.args.number ≡ Some l → All marked (parts_view l.parts.items))
    (λ f l at.
    subst (λ (y : Listed). All marked (parts_view y.parts.items)) (same_Some x l (sym here ∙ at))
    (subst (λ (qs : List Part). All marked (parts_view qs)) c.deref.ensures.value f))
    c.mark_parts.ensures.marked

pub returns-clause-met : goal.returns-clause-met
returns-clause-met c =
    let types = c.args.types.now in
    let every = c.args.every.now in
    let old = c.args.self.now.marks in
    let new = c.mark_parts.new.self in
    let x = c.index.result.now in
    let here : slice_get every.lists.items c.args.number ≡ Some x = slice_get_read every.lists.items _ c.args.number x refl c.requires c.index.ensures in
    on_ok_then c.mark_parts.result
    (StayMet types every old new (λ strict root. All (PartIsMet types strict root) (parts_view c.deref.result.now)))
    (StayMet types every old new (λ strict root. NumberIsMet types every strict root c.args.number))
    (λ f strict root listed met h.
    f strict root listed
    (subst (λ (qs : List Part). All (PartIsMet types strict root) (parts_view qs)) (sym c.deref.ensures.value)
    (parts_met types strict root (list_view x.id) (met x here) (parts_view x.parts.items) (listed.listed c.args.number x here).same))
    h)
    c.mark_parts.ensures.met
