use Rattle.std.proofs.Common.{◌≡◌, ◌++◌, filter}
use Rattle.facet_solver.specs.Resolutions.{passes}
use Rattle.facet_solver.specs.solver.Report.{is_viable, state_of_report}
use Rattle.facet_solver.proofs.solver.report.viable.viable_indices.Given as goal

abbrev pub invariant-loop-index : goal.invariant-loop-index
invariant-loop-index l =
    let state = state_of_report l.report in
    let test = passes (is_viable state.seen) state.schema.resolutions in
    l.indices.items ++ filter test l.index-iterator ≡ filter test state.candidates
