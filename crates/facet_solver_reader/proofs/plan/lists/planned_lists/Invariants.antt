use Rattle.std.proofs.Common.{map, take}
use Rattle.facet_solver_reader.specs.declared.tables.List.{List as ListEntry}
use Rattle.facet_solver_reader.specs.PlannedLists.{IsListFrom}
use Rattle.facet_solver_reader.specs.Plans.{AreInPairs}
use Rattle.facet_solver_reader.proofs.plan.lists.planned_lists.Given as goal

-- the lists before this one are planned
abbrev pub invariant-loop-list : goal.invariant-loop-list
invariant-loop-list l =
    AreInPairs (IsListFrom l.tables l.numbers)
    (map (λ (e : ListEntry). e) (take l.list-index l.list-items)) l.lists.items
