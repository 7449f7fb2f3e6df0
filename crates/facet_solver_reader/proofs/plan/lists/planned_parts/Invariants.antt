use Rattle.std.proofs.Common.{◌≡◌, length, map, take}
use Rattle.facet_solver_reader.specs.PlannedLists.{IsPartFrom}
use Rattle.facet_solver_reader.specs.Plans.{AreInPairs, HaveFieldNames}
use Rattle.facet_solver_reader.specs.Views.{list_view, part_view}
use Rattle.facet_solver_reader.proofs.plan.lists.planned_parts.Given as goal

-- the parts before this one are planned
abbrev pub invariant-loop-index : goal.invariant-loop-index
invariant-loop-index l = record {
  parts : AreInPairs (IsPartFrom l.tables l.numbers) (map part_view (take l.index l.parts)) l.planned.items;
  count : length l.planned.items ≡ l.index;
  fields : HaveFieldNames l.tables.shapes.now (list_view l.id) l.planned.items;
}
