use Rattle.std.proofs.Common.{◌≡◌, ℕ, ◌<◌, Some, length}
use Rattle.std.specs.Prelude.{IfSome}
use Rattle.facet_solver_reader.specs.Choices.{Choice, choosing}
use Rattle.facet_solver_reader.specs.Chosen.{ReadsChosen}
use Rattle.facet_solver_reader.specs.LookedUp.{IsLast}
use Rattle.facet_solver_reader.specs.Nodes.{members_in, value_of}
use Rattle.facet_solver_reader.specs.Views.{selection_view}
use Rattle.facet_solver_reader.proofs.count.chosen.lone_branch.Given as goal

-- of the branches before this one no other than the one that was found reads the object
abbrev pub invariant-loop-k : goal.invariant-loop-k
invariant-loop-k l =
    record {
      within : IfSome l.found (λ k. k < length l.selection.branches.items);
      last : IsLast (members_in (value_of l.nodes l.object.node)) l.last;
      alone :
          (j : ℕ) (c : Choice) → j < l.k
          → ReadsChosen l.tables l.nodes l.object (selection_view l.selection) (choosing j c)
          → l.found ≡ Some j;
    }
