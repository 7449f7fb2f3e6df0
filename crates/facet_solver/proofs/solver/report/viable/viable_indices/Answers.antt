use Rattle.std.proofs.Common.{◌<◌, ℕ, List, All, filter, length, refl, subst, sym}
use Rattle.facet_solver.specs.Resolutions.{passes}
use Rattle.facet_solver.specs.solver.Report.{is_viable, state_of_report}
use Rattle.facet_solver.proofs.AtIndices.{all_within}
use Rattle.facet_solver.proofs.Left.{left_end}
use Rattle.facet_solver.proofs.solver.report.viable.viable_indices.Goals as goal

pub returns-clause-exact : goal.returns-clause-exact
returns-clause-exact c =
    let state = state_of_report c.args.report.now in
    let test = passes (is_viable state.seen) state.schema.resolutions in
    left_end (filter test) c.loop-index.indices.items c.loop-index.index-iterator (filter test state.candidates) c.loop-index.invariant c.in-None.ensures.steps.0 refl

pub returns-clause-within : goal.returns-clause-within
returns-clause-within c =
    let state = state_of_report c.args.report.now in
    subst (λ (is : List ℕ). All (λ i. i < length state.schema.resolutions) is) (sym (returns-clause-exact c))
    (all_within (is_viable state.seen) state.schema.resolutions state.candidates)
