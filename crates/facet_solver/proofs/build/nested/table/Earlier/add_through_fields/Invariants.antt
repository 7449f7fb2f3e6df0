use Rattle.std.proofs.Common.{◌≡◌, ◌+◌, drop}
use Rattle.std.specs.FinSet.{union}
use Rattle.facet_solver_shape.specs.Steps.{NoCountFalls}
use Rattle.facet_solver.specs.build.Nested.{entered_view, through_fields}
use Rattle.facet_solver.specs.build.NestedNames.{NamesLead, paths_of_names}
use Rattle.facet_solver.specs.build.NestedTable.{is_filled, under_of}
use Rattle.facet_solver.proofs.build.nested.table.Earlier.add_through_fields.Given as goal

-- those so far and those through the fields that are left
abbrev pub invariant-loop-index : goal.invariant-loop-index
invariant-loop-index l =
    let through = through_fields (entered_view l.self.entered) l.self.shapes.now in
    let paths = paths_of_names (under_of l.self) in
    let filled = is_filled l.self.entries.now in
    (union (paths l.gathered.items) (through (drop l.index l.fields)) ≡ union (paths l.fn.gathered.items) (through l.fields))
    × (NamesLead filled l.fn.gathered.items → NamesLead filled l.gathered.items)
    × (l.steps.visits ≡ l.fn.steps.visits + l.index)
    × NoCountFalls l.fn.steps l.steps
