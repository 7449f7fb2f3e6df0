use Rattle.std.proofs.Common.{◌≡◌, ◌++◌, drop, map}
use Rattle.facet_solver_shape.specs.Names.{names_of}
use Rattle.facet_solver.specs.error.ErrorView.{missing_view}
use Rattle.facet_solver.proofs.solver.report.missing_names.Given as goal

abbrev pub invariant-loop-field : goal.invariant-loop-field
invariant-loop-field l =
    names_of l.names.items ++ map (λ f. f.name) (map missing_view (drop l.field-index l.fields))
    ≡ map (λ f. f.name) (map missing_view l.fields)
