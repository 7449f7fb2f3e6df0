use Rattle.std.proofs.Common.{◌≡◌, ◌+◌, take}
use Rattle.facet_solver_shape.specs.Steps.{NoCountFalls}
use Rattle.facet_solver.specs.build.Count.{count_fields_step, count_fields}
use Rattle.facet_solver.specs.build.Counts.{CountsTo}
use Rattle.facet_solver.specs.build.Build.{build_of}
use Rattle.facet_solver.proofs.build.count.table.count_fields.Given as goal

-- the product over the fields so far, each visited once
abbrev pub invariant-loop-index : goal.invariant-loop-index
invariant-loop-index l =
    CountsTo l.product (count_fields_step (count_fields (build_of l.build)) (build_of l.build) (take l.index l.fields))
    × (l.steps.visits ≡ l.fn.steps.visits + l.index)
    × NoCountFalls l.fn.steps l.steps
