-- Marks for the declarations that others mention.
use Rattle.std.specs.Prelude.{◌≡◌, ℕ, ◌==◌, ◌<◌, ◌&&◌, ◌||◌, not, Bool, List, length, slice_index_or}
use Rattle.facet_solver_types.specs.Roots.{is_among, is_mentioned}

-- each declaration is marked if another mentions it, as far as there are marks
abbrev pub AreMentioned : List (List ℕ) → List Bool → Type 0
AreMentioned links marks =
    (index : ℕ) (d : Bool) → index < length marks
    → slice_index_or marks index d ≡ is_mentioned links index

-- marks, and then those of some indices that are other than one
pub record AddsMarks (old new : List Bool) (by : ℕ) (indices : List ℕ) : Type 0 where
  pub long : length new ≡ length old
  pub marked : (index : ℕ) (d : Bool) → index < length old → slice_index_or new index d
      ≡ (slice_index_or old index d || (not (by == index) && is_among indices index))
