-- Pairs of targets that read no value in common, by their numbers.
use Rattle.std.specs.Prelude.{◌≡◌, ◌||◌, ℕ, Bool, false, not, List, Option, Some, None, slice_get}
use Rattle.std.specs.declared.cmp.Ordering.{Ordering}
use Rattle.std.specs.BTreeSet.{contains}
use Rattle.std.specs.Ordering.{nat_cmp, ordering_then}
use Rattle.std.specs.Str.{bytes_eq}
use Rattle.facet_solver_checker.specs.declared.apart.Apart.{Apart}
use Rattle.facet_solver_checker.specs.Pairs.{AreAmong, Pairs}
use Rattle.facet_solver_reader.specs.declared.plan.PlannedEnd.{PlannedEnd}
use Rattle.facet_solver_reader.specs.declared.plan.PlannedEnd.TheVariants as planned
use Rattle.facet_solver_reader.specs.declared.plan.PlannedTarget.{PlannedTarget}
use Rattle.facet_solver_reader.specs.Plans.{IsNumberOf, Meaning}
use Rattle.facet_solver_reader.specs.Values.{ReadsDown}

-- which of two pairs of numbers comes first
abbrev pub pair_cmp : ℕ × ℕ → ℕ × ℕ → Ordering
pair_cmp p q = ordering_then (nat_cmp p.0 q.0) (nat_cmp p.1 q.1)

-- whether a table has a pair
abbrev pub has_pair : Apart → ℕ → ℕ → Bool
has_pair apart first second = contains pair_cmp apart.pairs (first, second)

-- whether two ends are texts of different tags
abbrev pub are_other_tags : PlannedEnd → PlannedEnd → Bool
are_other_tags (planned.Tag x) (planned.Tag y) = not (bytes_eq x.now y.now)
are_other_tags _ _ = false

-- whether two targets are, if they are there
abbrev pub are_tags_there : Option PlannedTarget → Option PlannedTarget → Bool
are_tags_there (Some t) (Some u) = are_other_tags t.end u.end
are_tags_there _ _ = false

-- so by their numbers
abbrev pub are_tags_apart : List PlannedTarget → ℕ → ℕ → Bool
are_tags_apart targets first second =
    are_tags_there (slice_get targets first) (slice_get targets second)

-- whether two targets are known to be apart: what the first and what the second reading reads as
abbrev pub is_apart : Apart → ℕ → ℕ → Bool
is_apart apart first second =
    are_tags_apart apart.targets.now first second || has_pair apart first second

-- the pairs of targets that are not known to be apart
abbrev pub left : Meaning → Apart → Pairs
left m apart t u =
    (i j : ℕ) → IsNumberOf m t i → IsNumberOf m u j → is_apart apart i j ≡ false

-- two targets that read one value that nests fewer than so many deep are not in a table
abbrev pub LeavesDown : Meaning → Apart → ℕ → Type 0
LeavesDown m apart depth =
    AreAmong (left m apart) (ReadsDown m.rules depth) (ReadsDown m.rules depth)

-- two targets that read one value, however deep it nests, are not in a table
abbrev pub LeavesAll : Meaning → Apart → Type 0
LeavesAll m apart = (depth : ℕ) → LeavesDown m apart depth
