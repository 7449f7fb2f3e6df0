use Rattle.std.proofs.Common.{◌≡◌, ℕ, List, Some, None, map, ap}
use Rattle.facet_solver_shape.specs.Resolved.{Resolved}
use Rattle.facet_solver.specs.solver.Failure.{failure_of}
use Rattle.facet_solver.specs.error.ErrorView.{FailureView, failure_view}
use Rattle.facet_solver.specs.solver.Report.{resolutions_at, state_of_report}
use Rattle.facet_solver.proofs.AtIndices.{got, none_at, one_at}
use Rattle.facet_solver.proofs.Left.{left_none, left_one, map_pushed}
use Rattle.facet_solver.proofs.solver.report.failure.failures_at.Goals as goal

abbrev failures : (Resolved → FailureView) → List Resolved → List ℕ → List FailureView
failures failure resolutions indices = map failure (resolutions_at resolutions indices)

pub loop-index-preserved-in_ok-push : goal.loop-index-preserved-in_ok-push
loop-index-preserved-in_ok-push c =
    let state = state_of_report c.args.report.now in
    let rs = state.schema.resolutions in
    let why = failure_of state.schema.build.catalogue state.seen in
    let resolution = c.in-Some-get.resolution.now in
    let same : c.resolutions-resolutions.result.now ≡ rs = c.resolutions-resolutions.ensures.resolutions in
    left_one (failures why rs) (map failure_view c.loop-index.failures.items) c.loop-index.index-iterator c.next.new.self c.in-Some.index _
    c.loop-index.invariant c.in-Some.ensures.steps
    (map failure_view c.push.new.self.items) (why resolution)
    (map_pushed failure_view c.loop-index.failures.items c.push.new.self.items c.in_ok-failure.field-0 (why resolution) c.in_ok-push.ensures.items c.in_ok-failure.ensures)
    (ap (map why) (one_at rs c.in-Some.index c.next.new.self resolution (got rs c.resolutions-resolutions.result.now same c.in-Some.index (Some c.in-Some-get.resolution) c.in-Some-get.ensures.lookup)))

pub loop-index-preserved : goal.loop-index-preserved
loop-index-preserved c =
    let state = state_of_report c.args.report.now in
    let rs = state.schema.resolutions in
    let why = failure_of state.schema.build.catalogue state.seen in
    let same : c.resolutions-resolutions.result.now ≡ rs = c.resolutions-resolutions.ensures.resolutions in
    left_none (failures why rs) (map failure_view c.loop-index.failures.items) c.loop-index.index-iterator c.next.new.self c.in-Some.index _
    c.loop-index.invariant c.in-Some.ensures.steps
    (ap (map why) (none_at rs c.in-Some.index c.next.new.self (got rs c.resolutions-resolutions.result.now same c.in-Some.index None c.in_default.ensures.lookup)))
