-- What saturating counts say, a table of them, and what a walker must satisfy that carries one.
-- Only private contracts and proofs speak of it.
use Rattle.facet_solver.specs.build.Build.{Build, build_of}
use Rattle.std.specs.Prelude.{◌≡◌, ℕ, ◌^◌, ◌≤◌, List, Option, Some, None, slice_get, length}
use Rattle.facet_solver.specs.declared.build.count.saturating.SaturatingCount.{SaturatingCount}
use Rattle.facet_solver.specs.declared.build.count.saturating.SaturatingCount.TheVariants.{Exact, Larger}
use Rattle.std.specs.Option.{option_map_or}
use Rattle.facet_solver.specs.build.Count.{count_shape}
use Rattle.facet_solver_shape.specs.Catalogues.{NamesEarlier}
use Rattle.facet_solver.specs.declared.build.walker.Walker.{Walker}
use Rattle.facet_solver.specs.build.Contribution.{AreContributions}
use Rattle.facet_solver.specs.build.Reached.{AreTables}
use Rattle.facet_solver.specs.build.Starts.{HasWalkedStarts}

-- what a saturating count says of a number without bound: the number, or that it is 2^64 or more
abbrev pub CountsTo : SaturatingCount → ℕ → Type 0
CountsTo (Exact k) n = n ≡ k
CountsTo Larger n = 2 ^ 64 ≤ n

-- the saturating count of a number that is None from 2^64 on
abbrev pub saturating_of : Option ℕ → SaturatingCount
saturating_of (Some k) = Exact k
saturating_of None = Larger

-- the number of choices at a flattened field whose target stands at an index
unfoldable pub count_at : Build → ℕ → ℕ
count_at build id = option_map_or (count_shape build) (slice_get build.catalogue id) 1

-- the counts at the first indices of a catalogue
pub record AreFirstCounts (build : Build) (counts : List SaturatingCount) : Type 0 where
  pub within : length counts ≤ length build.catalogue
  pub each : (id : ℕ) (t : SaturatingCount) → slice_get counts id ≡ Some t
      → CountsTo t (count_at build id)

-- the counts at all indices of a catalogue
pub record AreCounts (build : Build) (counts : List SaturatingCount) : Type 0 where
  pub all : length counts ≡ length build.catalogue
  pub first : AreFirstCounts build counts

-- a walker's catalogue is checked, and its counts and tables are those of its build
pub record IsReady (walker : Walker) : Type 0 where
  pub checked : NamesEarlier walker.build.shapes.now
  pub counted : AreCounts (build_of walker.build) walker.counts
  pub starts : HasWalkedStarts (build_of walker.build) walker.starts.by_index.items
  pub contribution : AreContributions (build_of walker.build) walker.contribution.by_index.items
  pub tables : AreTables (build_of walker.build) walker.tables
