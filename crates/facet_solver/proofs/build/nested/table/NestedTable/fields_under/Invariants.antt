use Rattle.std.proofs.Common.{◌≡◌, ◌≤◌, ℕ, drop}
use Rattle.std.specs.Prelude.{◌&&◌, nat_lt}
use Rattle.std.specs.FinSet.{union}
use Rattle.std.specs.List.{AllByRecursion}
use Rattle.facet_solver.specs.build.Nested.{Under, paths_of_each}
use Rattle.facet_solver.specs.build.NestedNames.{NamesLead, paths_of_names}
use Rattle.facet_solver.specs.build.NestedTable.{EntriesStandFor, is_filled}
use Rattle.facet_solver.proofs.build.nested.table.NestedTable.fields_under.Given as goal

-- those so far and those under the shapes that are left
abbrev pub invariant-loop-shape : goal.invariant-loop-shape
invariant-loop-shape l =
    let entries = l.self.by_index.items in
    ((under : Under) → EntriesStandFor under entries → union (paths_of_names under l.gathered.items) (paths_of_each under (drop l.shape-index l.shapes)) ≡ paths_of_each under l.shapes)
    × ((limit : ℕ) → AllByRecursion (λ id. id ≤ limit) l.shapes → NamesLead (λ t. nat_lt t limit && is_filled entries t) l.gathered.items)
