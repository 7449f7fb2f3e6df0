use Rattle.std.proofs.Common.{ap, inl, inr, map, subst, sym}
use Rattle.std.specs.List.{All}
use Rattle.facet_solver_reader.specs.Blaming.{IsTakenBranch}
use Rattle.facet_solver_reader.specs.Views.{list_view, selection_view}
use Rattle.facet_solver_reader.proofs.CountingObjects.{seen_read}
use Rattle.facet_solver_reader.proofs.Quantifiers.{all_of_none}
use Rattle.facet_solver_reader.proofs.why.several.branches_of.Goals as goal
use Rattle.facet_solver_reader.proofs.why.several.branches_of.Goals.{else-selection-via-then-selection+else-not-touches, else-selection-via-else-selection}

pub loop-branch-init : goal.loop-branch-init
loop-branch-init c =
    let P = IsTakenBranch c.args.tables.now c.args.nodes.now c.args.tallied.now.object in
    record {
      present =
          elim c.else-selection.branch [
            | else-selection-via-then-selection+else-not-touches w ↦
                inr (w.touches.ensures.0 w.if-not-touches.false)
            | else-selection-via-else-selection w ↦ inl w.if-selection.false
          ];
      each = subst (All P) (sym c.new-branches.ensures.items) (all_of_none P);
    }

pub add_branch-requires-clause-branch : goal.add_branch-requires-clause-branch
add_branch-requires-clause-branch c =
    let ids = (selection_view c.args.selection.now).branches in
    let i = c.loop-branch.branch-index in (
      i,
      seen_read list_view c.deref-branch-items.result.now ids i c.branch-item.result
          (ap (map list_view) c.deref-branch-items.ensures.value) c.loop-branch-test.true
          c.branch-item.is,
    )
