use Rattle.std.proofs.Common.{map}
use Rattle.facet_solver_shape.specs.Fields.{entry_view}
use Rattle.facet_solver.specs.solver.Report.{resolution_field_names}
use Rattle.facet_solver.proofs.NameSets.{Fills, in_both, names_of_entries}
use Rattle.facet_solver.proofs.solver.report.viable.add_names.Given as goal

abbrev pub invariant-loop-field : goal.invariant-loop-field
invariant-loop-field l =
    Fills l.names.keys (names_of_entries (map entry_view l.field-iterator))
    (in_both l.fn.names.keys (resolution_field_names l.resolution))
