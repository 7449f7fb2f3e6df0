use Rattle.std.proofs.Common.{map, refl, Some, slice_get, subst, sym, ◌≡◌}
use Rattle.facet_solver_reader.specs.Planned.{step_view}
use Rattle.facet_solver_reader.specs.Views.{catch_all_view}
use Rattle.facet_solver_reader.proofs.CountingObjects.{seen_read}
use Rattle.facet_solver_reader.proofs.FirstRest.{first_rest, no_rest_at, no_rest_more}
use Rattle.facet_solver_reader.proofs.read.found.catch_all_in.Goals as goal

pub returns-in-Rest : goal.returns-in-Rest
returns-in-Rest c =
    let ss = map step_view c.args.steps.now in
    let i = c.loop-step.step-index in
    let at = seen_read step_view c.args.steps.now ss i c.step-item.result refl c.loop-step-test.true
    c.step-item.is in
    let here = subst (λ s. slice_get ss i ≡ Some (step_view s)) c.in-Rest.is at in
    sym (first_rest ss i (catch_all_view c.in-Rest.catch_all.now) c.loop-step.invariant here)

pub loop-step-preserved : goal.loop-step-preserved
loop-step-preserved c =
    let ss = map step_view c.args.steps.now in
    let i = c.loop-step.step-index in
    let item = c.step-item.result in
    let at = seen_read step_view c.args.steps.now ss i item refl c.loop-step-test.true
    c.step-item.is in
    no_rest_more ss i (step_view item) at c.loop-step.invariant
    (no_rest_at item c.in_default.not-Rest)
