-- Sets of indices as bits of words, 64 a word.
use Rattle.std.specs.Prelude.{◌≡◌, ℕ, ◌+◌, ◌-◌, ◌*◌, ◌/◌, ◌%◌, ◌^◌, ◌<◌, ◌≤◌, Bool, false, ◌&&◌, List, [], ◌∷◌, filter, length, nat_eq, nat_lt, slice_index}
use Rattle.std.specs.Int.{bit_at}
use Rattle.std.specs.List.{range_with_len}
use Rattle.facet_solver.specs.declared.set.words.Words.{Words}
use Rattle.facet_solver.specs.declared.set.words.Words.TheVariants.{One, Many}

-- the words, the lowest first
abbrev pub words_of : Words → List ℕ
words_of (One word) = word ∷ []
words_of (Many words) = words.items

-- how many words hold the indices below a bound: one at least
abbrev pub word_count : ℕ → ℕ
word_count bound = (bound - 1) / 64 + 1

-- how many words are begun by so many indices, 64 a word: none by none
abbrev pub begun_words : ℕ → ℕ
begun_words n = (n + 63) / 64

-- whether the bit of an index is set, where a function gives the words by their indices
unfoldable pub bit_of : (ℕ → ℕ) → ℕ → Bool
bit_of word i = nat_eq (bit_at (word (i / 64)) (i % 64)) 1

-- whether the bit of an index is set
abbrev pub has_bit : List ℕ → ℕ → Bool
has_bit words i = bit_of (λ k. slice_index words k) i

-- the indices from one on whose bit is set, rising
abbrev pub members_from : List ℕ → ℕ → List ℕ
members_from words from = filter (has_bit words) (range_with_len from (length words * 64 - from))

-- the indices whose bit is set, rising
abbrev pub members_of : List ℕ → List ℕ
members_of words = members_from words 0

-- no bit is set from the bound on
abbrev pub IsClearFrom : List ℕ → ℕ → Type 0
IsClearFrom words bound = (i : ℕ) → bound ≤ i → has_bit words i ≡ false

-- the words of a set of indices below a bound, which a machine word holds
pub record HoldBelow (bound : ℕ) (words : List ℕ) : Type 0 where
  pub count : length words ≡ word_count bound
  pub clear : IsClearFrom words bound
  pub fits : bound < 2 ^ 64

-- the words are those of the set of all indices below a bound
abbrev pub IsFull : ℕ → List ℕ → Type 0
IsFull bound words = (i : ℕ) → has_bit words i ≡ nat_lt i bound

-- of the bits of a word those are kept that meet a condition
abbrev pub KeepsBits : (ℕ → Bool) → ℕ → ℕ → Type 0
KeepsBits holds old new =
    (bit : ℕ) → bit < 64 → nat_eq (bit_at new bit) 1 ≡ (nat_eq (bit_at old bit) 1 && holds bit)
