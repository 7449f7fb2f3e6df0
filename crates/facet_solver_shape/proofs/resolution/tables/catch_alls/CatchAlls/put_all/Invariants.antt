use Rattle.std.proofs.Common.{◌≡◌}
use Rattle.std.specs.FinMap.{from_entries}
use Rattle.facet_solver_shape.proofs.Resolved.{IsUnderway}
use Rattle.facet_solver_shape.proofs.resolution.tables.catch_alls.CatchAlls.put_all.Given as goal

abbrev pub invariant-loop-category : goal.invariant-loop-category
invariant-loop-category l =
    (from_entries l.initial.category-iterator ≡ l.upper)
    × IsUnderway l.initial.self l.self l.initial.category-iterator l.category-iterator
