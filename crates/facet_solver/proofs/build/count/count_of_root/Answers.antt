use Rattle.std.proofs.Common.{◌+◌, ◌≤◌, ℕ, length, subst, sym, take, ap, ◌∙◌}
use Rattle.facet_solver_shape.specs.Catalogues.{KindBelow}
use Rattle.facet_solver.specs.build.Build.{build_of}
use Rattle.facet_solver.specs.build.Count.{count_of_root}
use Rattle.facet_solver.specs.build.Counts.{CountsTo}
use Rattle.facet_solver.specs.build.FieldCount.{field_count}
use Rattle.facet_solver.proofs.Count.{root-count}
use Rattle.facet_solver.proofs.NestedTable.{shape_visits_at_most}
use Rattle.facet_solver.proofs.build.count.count_of_root.Goals as goal

pub count_shape-number-requires-clause-below : goal.count_shape-number-requires-clause-below
count_shape-number-requires-clause-below c =
    let s = c.shape-shape.result.now in
    let all = ap length (c.as_slice.ensures.value ∙ c.counts.view_is) ∙ c.in_ok-counts.ensures.all ∙ c.index.ensures in
    subst (λ (n : ℕ). KindBelow n s.kind) (sym all) (c.shape-shape.ensures.checked c.args.root s c.shape-shape.ensures.found).kind

pub returns-clause-number : goal.returns-clause-number
returns-clause-number c =
    let build = build_of c.args.build in
    let t = c.count_shape-number.result in
    let number = root-count build c.args.root c.shape-shape.result.now c.shape-shape.ensures.found in
    c.exact.ensures (count_of_root build c.args.root) (subst (λ (n : ℕ). CountsTo t n) (sym number) c.count_shape-number.ensures.shape)

pub returns-clause-visits : goal.returns-clause-visits
returns-clause-visits c =
    let cat = c.args.build.shapes.now in
    let before = subst (λ (n : ℕ). c.before-2.new.steps.visits ≤ c.args.steps.now.visits + field_count (take n cat)) c.index.ensures c.before-2.ensures.visits in
    shape_visits_at_most cat c.args.root c.shape-shape.result.now _ _ _ c.shape-shape.ensures.found before c.count_shape-number.ensures.visits
