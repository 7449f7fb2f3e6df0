use Rattle.std.proofs.Common.{◌≡◌, take}
use Rattle.facet_solver.specs.solver.Run.{after_calls, call_views}
use Rattle.facet_solver.proofs.solver.Solver.run.Given as goal

abbrev pub invariant-loop-made : goal.invariant-loop-made
invariant-loop-made l = l.self ≡ after_calls (call_views (take l.made l.calls)) l.fn.self
