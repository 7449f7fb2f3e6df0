-- The indices that two sets share, as bits of their words.
use Rattle.std.specs.Prelude.{◌≡◌, ℕ, ◌-◌, ◌*◌, ◌^◌, ◌<◌, ◌≤◌, Bool, true, false, List, bit_and, filter, length, slice_index}
use Rattle.std.specs.List.{range_with_len}
use Rattle.facet_solver.specs.set.Words.{bit_of}

-- what the words of a place share
abbrev pub common_word : List ℕ → List ℕ → ℕ → ℕ
common_word words others k = bit_and (slice_index words k) (slice_index others k)

-- whether the bit of an index is set in both
abbrev pub common_bit : List ℕ → List ℕ → ℕ → Bool
common_bit words others i = bit_of (common_word words others) i

-- the indices from one on whose bit is set in both, rising
abbrev pub common_from : List ℕ → List ℕ → ℕ → List ℕ
common_from words others from =
    filter (common_bit words others) (range_with_len from (length words * 64 - from))

-- the indices that two sets share and that are still to come, and how many words of each are not
-- read yet
pub record CommonView : Type 0 where
  pub items : List ℕ
  pub unread : ℕ

-- no index from one to another passes
abbrev pub NoneBetween : (ℕ → Bool) → ℕ → ℕ → Type 0
NoneBetween p from end = (i : ℕ) → from ≤ i → i < end → p i ≡ false

-- the least index from one on that passes
pub record IsNext (p : ℕ → Bool) (from i : ℕ) : Type 0 where
  pub above : from ≤ i
  pub passes : p i ≡ true
  pub skipped : (j : ℕ) → from ≤ j → j < i → p j ≡ false

-- the first place from one on whose word is not 0, below a number, and the word
pub record IsNextShared (word : ℕ → ℕ) (from below : ℕ) (found : ℕ × ℕ) : Type 0 where
  pub above : from ≤ found.0
  pub within : found.0 < below
  pub is : found.1 ≡ word found.0
  pub some : 0 < found.1
  pub fits : found.1 < 2 ^ 64
  pub skipped : (k : ℕ) → from ≤ k → k < found.0 → word k ≡ 0
