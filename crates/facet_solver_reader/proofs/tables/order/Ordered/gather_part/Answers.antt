use Rattle.std.proofs.Common.{◌≡◌, ◌<◌, ℕ, arith, sym, ap, subst, length, List, Some, slice_get}
use Rattle.facet_solver_reader.specs.declared.part.ListId.{ListId}
use Rattle.facet_solver_reader.specs.declared.part.Part.{Part}
use Rattle.facet_solver_reader.specs.Placing.{ListIsAmong, PartIsAmong}
use Rattle.facet_solver_reader.specs.Views.{list_view, part_view}
use Rattle.facet_solver_reader.proofs.Gathered.{list_kept}
use Rattle.facet_solver_reader.proofs.LeftLists.{all_viewed, each_more}
use Rattle.facet_solver_reader.proofs.tables.order.Ordered.gather_part.Goals as goal

pub loop-branch-preserved : goal.loop-branch-preserved
loop-branch-preserved c =
    let o = c.args.self.now in
    let old = c.loop-branch.gathered.items in
    let new = c.gather_list.new.gathered.items in
    let done = c.in_ok-gather_list.ensures in
    record {
      closed = done.closed;
      kept = λ k m. done.kept k (c.loop-branch.invariant.kept k m);
      among = each_more (λ (b : ListId). ListIsAmong o new (list_view b)) c.deref-branch-items.result.now c.loop-branch.branch-index c.branch-item.result
          c.loop-branch-test.true c.branch-item.is
          (λ k b less at. list_kept o old new done.kept (list_view b) (c.loop-branch.invariant.among k b less at))
          done.among;
    }

pub returns-after-loop-branch-clause-among : goal.returns-after-loop-branch-clause-among
returns-after-loop-branch-clause-among c =
    let o = c.args.self.now in
    let now = c.loop-branch.gathered.items in
    let ids = c.in-Selection.selection.branches.items in
    subst (λ (p : Part). PartIsAmong o now (part_view p)) (sym c.in-Selection.is)
    (all_viewed list_view (ListIsAmong o now) ids c.loop-branch.branch-index
    (omega (arith, c.loop-branch-test.false, ap (λ (l : List ListId). length l) c.deref-branch-items.ensures.value))
    (subst (λ (l : List ListId). (k : ℕ) (b : ListId) → k < c.loop-branch.branch-index → slice_get l k ≡ Some b → ListIsAmong o now (list_view b)) c.deref-branch-items.ensures.value c.loop-branch.invariant.among))
