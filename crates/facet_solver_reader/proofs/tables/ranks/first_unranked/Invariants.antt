use Rattle.std.proofs.Common.{ℕ, ◌<◌}
use Rattle.facet_solver_reader.specs.OrderedLists.{IsMarked}
use Rattle.facet_solver_reader.specs.WorkList.{HasEnd}
use Rattle.facet_solver_reader.proofs.tables.ranks.first_unranked.Given as goal

-- the shapes before this one are ranked
abbrev pub invariant-loop-index : goal.invariant-loop-index
invariant-loop-index l =
    (id : ℕ) → id < l.index → HasEnd l.ends.items id → IsMarked l.is_ranked.items id
