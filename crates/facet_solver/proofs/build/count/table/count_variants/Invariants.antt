use Rattle.std.proofs.Common.{◌≡◌, ◌+◌, ◌≤◌, length, take, true}
use Rattle.std.specs.Prelude.{sum_by}
use Rattle.facet_solver_shape.specs.Steps.{NoCountFalls}
use Rattle.facet_solver.specs.build.Counts.{CountsTo}
use Rattle.facet_solver.specs.build.Count.{count_variants}
use Rattle.facet_solver.specs.build.Build.{build_of}
use Rattle.facet_solver.proofs.build.count.table.count_variants.Given as goal

-- the sum over the variants so far, and the visits of their fields
abbrev pub invariant-loop-variant : goal.invariant-loop-variant
invariant-loop-variant l =
    CountsTo l.sum (count_variants (build_of l.build) l.walked (take l.variant-index l.variants))
    × (l.steps.visits ≤ l.fn.steps.visits + sum_by (λ v. length v.fields.items) (take l.variant-index l.variants))
    × NoCountFalls l.fn.steps l.steps
    × (l.walked ≡ true → l.steps.visits ≡ l.fn.steps.visits + sum_by (λ v. length v.fields.items) (take l.variant-index l.variants))
