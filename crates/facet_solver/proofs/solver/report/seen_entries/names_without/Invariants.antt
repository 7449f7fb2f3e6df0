use Rattle.std.proofs.Common.{◌≡◌, map, string_bytes, take}
use Rattle.facet_solver.specs.solver.SeenEntries.{names_without}
use Rattle.facet_solver.proofs.solver.report.seen_entries.names_without.Given as goal

abbrev pub invariant-loop-seen : goal.invariant-loop-seen
invariant-loop-seen l = map string_bytes l.names.items ≡ names_without l.index (take l.seen-index l.entries)
