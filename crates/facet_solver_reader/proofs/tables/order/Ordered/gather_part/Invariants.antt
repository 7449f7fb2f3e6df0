use Rattle.std.proofs.Common.{◌≡◌, ◌<◌, ℕ, Some, slice_get}
use Rattle.facet_solver_reader.specs.declared.part.ListId.{ListId}
use Rattle.facet_solver_reader.specs.Placing.{AreGathered, AreStillAmong, ListIsAmong}
use Rattle.facet_solver_reader.specs.Views.{list_view}
use Rattle.facet_solver_reader.proofs.tables.order.Ordered.gather_part.Given as goal

-- what is below the branches before this one is gathered
abbrev pub invariant-loop-branch : goal.invariant-loop-branch
invariant-loop-branch l = record {
  closed : AreGathered l.self l.gathered.items;
  kept : AreStillAmong l.initial.gathered.items l.gathered.items;
  among : (k : ℕ) (b : ListId) → k < l.branch-index → slice_get l.branch-items k ≡ Some b
      → ListIsAmong l.self l.gathered.items (list_view b);
}
