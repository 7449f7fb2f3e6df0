use Rattle.std.proofs.Common.{◌≡◌, ◌++◌, drop, map, string_bytes}
use Rattle.facet_solver.specs.solver.Report.{descriptions, resolutions_at}
use Rattle.facet_solver.proofs.solver.report.viable.descriptions.Given as goal

abbrev pub invariant-loop-index : goal.invariant-loop-index
invariant-loop-index l =
    map string_bytes l.texts.items ++ descriptions (resolutions_at l.schema.resolutions (drop l.index-index l.indices))
    ≡ descriptions (resolutions_at l.schema.resolutions l.indices)
