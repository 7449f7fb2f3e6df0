use Rattle.std.proofs.Common.{◌≡◌, ◌++◌, drop, filter}
use Rattle.facet_solver_types.specs.Meant.{is_in_block}
use Rattle.facet_solver_types.specs.Understood.{declarations_view}
use Rattle.facet_solver_types.proofs.typing.meant.those_in_block.Given as goal

-- those so far, and those of the others
abbrev pub invariant-loop-index : goal.invariant-loop-index
invariant-loop-index l =
    filter (is_in_block (declarations_view l.declarations) l.place) l.indices
    ≡ l.found.items
    ++ filter (is_in_block (declarations_view l.declarations) l.place) (drop l.index-index l.indices)
