use Rattle.std.proofs.Common.{◌≡◌, ◌++◌, map}
use Rattle.facet_solver.specs.solver.Failure.{failure_of}
use Rattle.facet_solver.specs.error.ErrorView.{failure_view}
use Rattle.facet_solver.specs.solver.Report.{resolutions_at, state_of_report}
use Rattle.facet_solver.proofs.solver.report.failure.failures_at.Given as goal

abbrev pub invariant-loop-index : goal.invariant-loop-index
invariant-loop-index l =
    let state = state_of_report l.report in
    let failure = failure_of state.schema.build.catalogue state.seen in
    map failure_view l.failures.items ++ map failure (resolutions_at state.schema.resolutions l.index-iterator)
    ≡ map failure (resolutions_at state.schema.resolutions l.indices.members)
