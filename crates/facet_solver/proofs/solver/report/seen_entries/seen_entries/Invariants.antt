use Rattle.std.proofs.Common.{◌≡◌, ◌++◌, All, map}
use Rattle.facet_solver_shape.specs.Keys.{key_of}
use Rattle.facet_solver.specs.solver.SeenEntries.{HasEntry}
use Rattle.facet_solver.proofs.solver.report.seen_entries.seen_entries.Given as goal

abbrev pub invariant-loop-key : goal.invariant-loop-key
invariant-loop-key l = record {
  keys : map (λ e. key_of e.key) l.entries.items ++ map key_of l.key-iterator ≡ map key_of l.seen.keys;
  each : All (HasEntry l.schema.resolutions) l.entries.items;
}
