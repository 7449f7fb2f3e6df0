-- No step so far is a catch-all.
use Rattle.std.proofs.Common.{◌≡◌, map, take, None}
use Rattle.facet_solver_reader.specs.Found as spec
use Rattle.facet_solver_reader.specs.Planned.{step_view}
use Rattle.facet_solver_reader.proofs.read.found.catch_all_in.Given as goal

abbrev pub invariant-loop-step : goal.invariant-loop-step
invariant-loop-step l = spec.catch_all_in (take l.step-index (map step_view l.steps)) ≡ None
