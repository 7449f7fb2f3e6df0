use Rattle.std.proofs.Common.{◌≡◌, map, take}
use Rattle.facet_solver_types.specs.Understood.{declarations_view}
use Rattle.facet_solver_types.specs.UseFaults.{all_faults}
use Rattle.facet_solver_types.specs.Uses.{use_view}
use Rattle.facet_solver_types.proofs.typing.use_faults.all_faults.Given as goal

-- those so far
abbrev pub invariant-loop-used : goal.invariant-loop-used
invariant-loop-used l =
    l.faults.items
    ≡ all_faults (declarations_view l.declarations.list.now)
    (map (λ u. use_view u.now) (take l.used-index l.uses))
