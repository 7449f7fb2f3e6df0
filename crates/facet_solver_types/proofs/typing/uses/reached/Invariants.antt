use Rattle.std.proofs.Common.{◌≡◌, ◌+◌, ◌-◌, length}
use Rattle.facet_solver_types.specs.Understood.{declarations_view}
use Rattle.facet_solver_types.specs.UsedTypes.{reached_from}
use Rattle.facet_solver_types.specs.UseIds.{AreIdsOf}
use Rattle.facet_solver_types.specs.Uses.{uses_view}
use Rattle.facet_solver_types.proofs.typing.uses.reached.Given as goal

-- what all lead to is what those so far do, and then the rest, of which so many may follow
abbrev pub invariant-loop-at : goal.invariant-loop-at
invariant-loop-at l = record {
  all : reached_from (declarations_view l.declarations.list.now) (length l.declarations.list.now + 4096) 0
      (uses_view l.initial.found.items)
      ≡ reached_from (declarations_view l.declarations.list.now) (length l.declarations.list.now + 4096 - l.at) l.at
      (uses_view l.found.items);
  known : AreIdsOf l.ids (uses_view l.found.items);
}

abbrev pub decreases-loop-at : goal.decreases-loop-at
decreases-loop-at l = length l.declarations.list.now + 4096 - l.at
