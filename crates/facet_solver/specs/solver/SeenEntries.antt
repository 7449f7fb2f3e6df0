-- The seen keys with their entries.
use Rattle.std.specs.Prelude.{◌≡◌, ℕ, List, All, filter, length, map, not}
use Rattle.std.specs.Option.{option_copied}
use Rattle.facet_solver_shape.specs.Keys.{Key, key_of}
use Rattle.facet_solver_shape.specs.Names.{Name}
use Rattle.facet_solver_shape.specs.Resolved.{Resolved}
use Rattle.facet_solver.specs.Resolutions.{field_at}
use Rattle.facet_solver.specs.schema.Indexed.{IsEntryIfAny}
use Rattle.facet_solver.specs.schema.IndexEntries.{holds}
use Rattle.facet_solver.specs.schema.Schema.{SchemaView}
use Rattle.facet_solver.specs.declared.solver.report.seen_entries.SeenEntry.{SeenEntry}

-- a seen key has its entry
abbrev pub HasEntry : List Resolved → SeenEntry → Type 0
HasEntry resolutions e =
    IsEntryIfAny (length resolutions) (field_at (key_of e.key) resolutions) (option_copied e.entry)

-- they are the seen keys, and each has its entry
pub record AreSeenEntries (schema : SchemaView) (seen : List Key) (entries : List SeenEntry)
    : Type 0 where
  pub keys : map (λ e. key_of e.key) entries ≡ seen
  pub each : All (HasEntry schema.resolutions) entries

-- the names of the keys whose entry lacks a resolution
abbrev pub names_without : ℕ → List SeenEntry → List Name
names_without index entries =
    map (λ e. (key_of e.key).name) (filter (λ e. not (holds (option_copied e.entry) index)) entries)
