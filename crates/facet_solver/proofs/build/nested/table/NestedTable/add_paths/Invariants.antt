use Rattle.std.proofs.Common.{◌≡◌, ◌++◌}
use Rattle.std.specs.List.{AllByRecursion}
use Rattle.facet_solver_shape.specs.Names.{names_of}
use Rattle.facet_solver.specs.build.Nested.{Under, with_paths_behind}
use Rattle.facet_solver.specs.build.NestedLevels.{names_left, paths_of_levels}
use Rattle.facet_solver.specs.build.NestedNames.{paths_of_names}
use Rattle.facet_solver.specs.build.NestedTable.{EntriesStandFor, paths_by_name}
use Rattle.facet_solver.proofs.NestedFields.{limit_of_names}
use Rattle.facet_solver.proofs.NestedLevels.{AreOpen, IsOpen, entry_paths, level_names, steps_left}
use Rattle.facet_solver.proofs.build.nested.table.NestedTable.add_paths.Given as goal

-- each path is added once, and what is gone into lies at lower indices
abbrev pub decreases-loop-name : goal.decreases-loop-name
decreases-loop-name l =
    let under = entry_paths l.self.by_index.items in
    let left = names_left l.names in
    steps_left (limit_of_names l.fields.by_name.items) (paths_of_levels under l.outer.items (paths_of_names under left)) left

-- the key paths so far and those that are left, behind the prefix, on which the names of the levels
-- stand
abbrev pub invariant-loop-name : goal.invariant-loop-name
invariant-loop-name l =
    let entries = l.self.by_index.items in
    let limit = limit_of_names l.fields.by_name.items in
    let base = l.fn.prefix.items in
    ((under : Under) → EntriesStandFor under entries
    → with_paths_behind l.resolution (names_of base) (paths_of_levels under l.outer.items (paths_of_names under (names_left l.names)))
    ≡ with_paths_behind l.fn.resolution (names_of base) (paths_by_name under l.fields))
    × (l.prefix.items ≡ base ++ level_names l.outer.items)
    × AreOpen entries limit (names_left l.names)
    × AllByRecursion (IsOpen entries limit) l.outer.items
