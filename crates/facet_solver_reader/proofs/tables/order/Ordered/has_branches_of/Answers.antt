use Rattle.std.proofs.Common.{◌≡◌, ◌<◌, ℕ, length, List, Some, slice_get, arith, refl, sym, ap, subst}
use Rattle.facet_solver_reader.specs.declared.part.ListId.{ListId}
use Rattle.facet_solver_reader.specs.declared.part.Part.{Part}
use Rattle.facet_solver_reader.specs.Placing.{IsUnplaced, PartIsPlaced}
use Rattle.facet_solver_reader.specs.Views.{list_view, part_view}
use Rattle.facet_solver_reader.proofs.LeftLists.{all_viewed, each_more}
use Rattle.facet_solver_reader.proofs.tables.order.Ordered.has_branches_of.Goals as goal

pub returns-after-loop-branch-clause-all : goal.returns-after-loop-branch-clause-all
returns-after-loop-branch-clause-all c = λ shapes listed t.
    let o = c.args.self.now in
    let ids = c.in-Selection.selection.branches.items in
    subst (λ (p : Part). PartIsPlaced shapes o (part_view p)) (sym c.in-Selection.is)
    (all_viewed list_view (λ b. ¬ IsUnplaced shapes o b) ids c.loop-branch.branch-index
    (omega (arith, c.loop-branch-test.false, ap (λ (l : List ListId). length l) c.deref-branch-items.ensures.value))
    (subst (λ (l : List ListId). (k : ℕ) (b : ListId) → k < c.loop-branch.branch-index → slice_get l k ≡ Some b → ¬ IsUnplaced shapes o (list_view b)) c.deref-branch-items.ensures.value (c.loop-branch.invariant shapes listed)))

pub loop-branch-preserved : goal.loop-branch-preserved
loop-branch-preserved c = λ shapes listed.
    each_more (λ (b : ListId). ¬ IsUnplaced shapes c.args.self.now (list_view b)) c.deref-branch-items.result.now c.loop-branch.branch-index c.branch-item.result
    c.loop-branch-test.true c.branch-item.is (c.loop-branch.invariant shapes listed) (c.if-is_missing.ensures.other shapes listed refl)
