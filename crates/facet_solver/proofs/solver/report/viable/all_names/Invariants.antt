use Rattle.std.proofs.Common.{drop}
use Rattle.std.specs.List.{flat_map}
use Rattle.facet_solver.specs.solver.Report.{resolution_field_names, resolutions_at}
use Rattle.facet_solver.proofs.NameSets.{Fills, in_list}
use Rattle.facet_solver.proofs.solver.report.viable.all_names.Given as goal

abbrev pub invariant-loop-index : goal.invariant-loop-index
invariant-loop-index l =
    Fills l.names.keys (flat_map resolution_field_names (resolutions_at l.schema.resolutions (drop l.index-index l.indices)))
    (in_list (flat_map resolution_field_names (resolutions_at l.schema.resolutions l.indices)))
