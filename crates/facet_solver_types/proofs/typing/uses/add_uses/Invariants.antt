use Rattle.std.proofs.Common.{◌≡◌, drop, length}
use Rattle.std.specs.List.{fold}
use Rattle.facet_solver_types.specs.UsedTypes.{with_use, with_uses}
use Rattle.facet_solver_types.specs.UseIds.{AreIdsOf}
use Rattle.facet_solver_types.specs.Uses.{uses_view}
use Rattle.facet_solver_types.proofs.typing.uses.add_uses.Given as goal

-- those so far, and then what is new of the rest
abbrev pub invariant-loop-used : goal.invariant-loop-used
invariant-loop-used l = record {
  all : with_uses (uses_view l.initial.found.items) (uses_view l.fn.more.items)
      ≡ fold with_use (uses_view l.found.items)
      (uses_view (drop (length l.yielded) l.fn.more.items));
  known : AreIdsOf l.ids (uses_view l.found.items);
}
