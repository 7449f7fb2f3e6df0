use Rattle.std.proofs.Common.{◌≡◌, ◌+◌, ◌≤◌, length, map, take}
use Rattle.std.specs.Prelude.{sum_by}
use Rattle.facet_solver_shape.specs.Steps.{NoCountFalls}
use Rattle.facet_solver.specs.build.Nested.{entered_view, under_variant}
use Rattle.facet_solver.specs.build.NestedTable.{AllLeadTo, is_filled, paths_by_name, under_of}
use Rattle.facet_solver.proofs.build.nested.table.Earlier.under_variants.Given as goal

-- those under the variants so far
abbrev pub invariant-loop-variant : goal.invariant-loop-variant
invariant-loop-variant l =
    let entered = entered_view l.self.entered in
    let cat = l.self.shapes.now in
    (map (paths_by_name (under_of l.self)) l.each.items ≡ map (under_variant entered cat) (take l.variant-index l.variants))
    × AllLeadTo (is_filled l.self.entries.now) l.each
    × (l.steps.visits ≤ l.fn.steps.visits + sum_by (λ v. length v.fields.items) (take l.variant-index l.variants))
    × NoCountFalls l.fn.steps l.steps
