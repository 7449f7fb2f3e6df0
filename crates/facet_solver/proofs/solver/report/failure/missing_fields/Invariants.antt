use Rattle.std.proofs.Common.{◌≡◌, ◌++◌, List, map}
use Rattle.facet_solver_shape.specs.Fields.{entry_view}
use Rattle.facet_solver_shape.specs.Keys.{Key}
use Rattle.std.specs.FinMap as finite
use Rattle.facet_solver.specs.error.ErrorView.{missing_view}
use Rattle.facet_solver.specs.solver.SeenNames.{AreSeenNames}
use Rattle.facet_solver.proofs.Missing.{missing_among}
use Rattle.facet_solver.proofs.solver.report.failure.missing_fields.Given as goal

abbrev pub invariant-loop-field : goal.invariant-loop-field
invariant-loop-field l =
    (seen : List Key) → AreSeenNames seen l.names
    → map missing_view l.fields.items ++ missing_among l.shapes seen (map (λ e. e.1) (map entry_view l.field-iterator))
    ≡ missing_among l.shapes seen (finite.values l.resolution.fields)
