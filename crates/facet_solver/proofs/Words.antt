-- Sets of indices as bits of words: the bits of words, and the members that they stand for.
use Rattle.std.proofs.Common.{◌≡◌, ℕ, zero, suc, ◌+◌, ◌-◌, ◌*◌, ◌/◌, ◌%◌, ◌^◌, ◌<◌, ◌≤◌, min, Bool, false, cond, ◌&&◌, inl, inr, eq-eqb, ne_eqb, not, nat_eq, List, [], ◌∷◌, length, get_or, set, filter, add-zero, length-append, refl, ap, sym, ◌∙◌, arith, le-ltb, w64, get_or-set_other, get_or-set_same, All}
use Rattle.std.proofs.lemmas.Bool.{and_left, and_right, cases_eq, cases_lt, eqb-false, lt-ltb}
use Rattle.std.proofs.lemmas.List.{get_or_past}
use Rattle.std.proofs.lemmas.Nat.Bits.{bit_at-zero, bit_at-lt, bit_at_clear_same, bit_at_clear_other, bit_at_ones, bit_at_ones_above, bit_at_above, bit_at-trailing_zeros, bit_at-suc, bit_at_lowest, same_from_bits_below}
use Rattle.std.proofs.lemmas.Nat.{shr-shr, shr_le, ones_cat, shr_below}
use Rattle.std.specs.Int.Count.{ones}
use Rattle.std.specs.List.{range_with_len}
use Rattle.std.specs.Prelude.{bit_and}
use Rattle.std.specs.Int.{bit_at, bit_not, trailing_zeros}
use Rattle.facet_solver.specs.set.IndexSet.{upto, has_index}
use Rattle.facet_solver.specs.set.Words.{IsFull, KeepsBits, bit_of, has_bit, HoldBelow, members_from, members_of}
use Rattle.facet_solver.proofs.IndexSet.{IsNext, filter_split, filter-below, filter-next, filter-rises, filter_all, filter_cut, filter_filter, filter_none, filter_same, has_passing}
use Rattle.std.proofs.Math.Bool.{and-true}
use Rattle.std.proofs.Math.Nat.{sub-zero}
use Rattle.std.specs.List.Sorted.{IsStrictlyIncreasing}

-- ---- bits of words
-- the test of a bit of one word
pub bit_is_set : (words : List ℕ) (i : ℕ) → nat_eq (bit_at (get_or words (i / 64) 0) (i % 64)) 1 ≡ has_bit words i
unfolding bit_of
bit_is_set words i = refl

-- past the last word no bit is set
pub not_set : (words : List ℕ) (i : ℕ) → length words ≤ i / 64 → false ≡ has_bit words i
unfolding bit_of
not_set words i past = rw (get_or_past words (i / 64) 0 past, bit_at-zero (i % 64)) refl

-- so the members end with the words
pub clear_past : (words : List ℕ) (i : ℕ) → length words * 64 ≤ i → has_bit words i ≡ false
clear_past words i past = sym (not_set words i (omega arith))

-- no bit is set where each word is 0
pub clear_of_zeros : (words : List ℕ) → ((k : ℕ) → get_or words k 0 ≡ 0) → (i : ℕ) → has_bit words i ≡ false
unfolding bit_of
clear_of_zeros words zeros i = rw (zeros (i / 64), bit_at-zero (i % 64)) refl

-- and the converse
pub zero_of_clear : (words : List ℕ) (k : ℕ) → get_or words k 0 < 2 ^ 64 → ((i : ℕ) → has_bit words i ≡ false) → get_or words k 0 ≡ 0
unfolding bit_of
zero_of_clear words k fits clear =
    same_from_bits_below 64 (get_or words k 0) 0 fits (omega arith)
    (λ j small.
    let index_is : (k * 64 + j) / 64 ≡ k = omega arith in
    let bit : (k * 64 + j) % 64 ≡ j = omega arith in
    let is_not : nat_eq (bit_at (get_or words k 0) j) 1 ≡ false = rw (index_is, bit) at (clear (k * 64 + j)) in
    let ne = eqb-false (bit_at (get_or words k 0) j) 1 is_not in
    let below = bit_at-lt (get_or words k 0) j in
    let value : bit_at (get_or words k 0) j ≡ 0 = omega arith in
    value ∙ sym (bit_at-zero j))

-- word k of the set of all indices below a bound
abbrev pub full_word : ℕ → ℕ → ℕ
full_word bound k = 2 ^ (min 64 (bound - k * 64)) - 1

-- its words are those of all indices below the bound
pub full_bits : (words : List ℕ) (bound : ℕ) → ((k : ℕ) → get_or words k 0 ≡ full_word bound k) → IsFull bound words
unfolding bit_of
full_bits words bound each i =
    let count : ℕ = min 64 (bound - i / 64 * 64) in
    elim (cases_lt i bound) [
      | inl low ↦ rw (each (i / 64), bit_at_ones count (i % 64) (omega arith), lt-ltb i bound low) refl
      | inr high ↦ rw (each (i / 64), bit_at_ones_above count (i % 64) (omega arith), le-ltb i bound high) refl
    ]

-- past the last word there is nothing
pub full_past : (words : List ℕ) (bound k : ℕ) → length words ≤ k → bound ≤ k * 64 → get_or words k 0 ≡ full_word bound k
full_past words bound k past high =
    let count : min 64 (bound - k * 64) ≡ 0 = omega arith in rw (get_or_past words k 0 past, count) refl

-- the one word of all indices below a bound that it holds
pub one_full : (word bound : ℕ) → bound ≤ 64 → word ≡ 2 ^ bound - 1 → IsFull bound (word ∷ [])
one_full word bound within is =
    full_bits (word ∷ []) bound
    (λ k.
    elim (cases_eq k 0) [
      | inl first ↦ let count : min 64 (bound - 0 * 64) ≡ bound = omega arith in rw (first, count) is
      | inr later ↦ full_past (word ∷ []) bound k (omega arith) (omega arith)
    ])

-- ---- the least index from one on whose bit is set, by words
-- the bits of a shifted word
pub bit_at-shr : (word r j : ℕ) → bit_at (word / 2 ^ r) j ≡ bit_at word (r + j)
bit_at-shr word r j = ap (λ x. x % 2) (shr-shr word r j)

-- the word that holds the bit of that index: its lowest bit from there on
pub next_in_word : (f : ℕ → ℕ) (from : ℕ) → f (from / 64) < 2 ^ 64 → 0 < f (from / 64) / 2 ^ (from % 64)
    → IsNext (bit_of f) from (from + trailing_zeros w64 (f (from / 64) / 2 ^ (from % 64)))
unfolding bit_of
next_in_word f from fits some =
    let word : ℕ = f (from / 64) in
    let r : ℕ = from % 64 in
    let low = bit_at-trailing_zeros w64 (word / 2 ^ r) some (let small = shr_le word r in omega arith) in
    let tz : ℕ = trailing_zeros w64 (word / 2 ^ r) in
    let set : bit_at word (r + tz) ≡ 1 = sym (bit_at-shr word r tz) ∙ low.1 in
    let within : r + tz < 64 = elim (cases_lt (r + tz) 64) [
      | inl small ↦ small
      | inr large ↦ absurd (let none : bit_at word (r + tz) ≡ 0 = bit_at_above word 64 (r + tz) fits large in omega arith)
    ] in
    let index_is : (from + tz) / 64 ≡ from / 64 = omega arith in
    let bit : (from + tz) % 64 ≡ r + tz = omega arith in
    record {
      above = omega arith;
      passes = rw (index_is, bit, set) refl;
      skipped = λ i high below.
          let d : ℕ = i - from in
          let at : i / 64 ≡ from / 64 = omega arith in
          let at_bit : i % 64 ≡ r + d = omega arith in
          let clear : bit_at word (r + d) ≡ 0 = sym (bit_at-shr word r d) ∙ low.2 d (omega arith) in
          rw (at, at_bit, clear) refl;
    }

-- and where there is none in that word
pub none_in_word : (f : ℕ → ℕ) (from : ℕ) → f (from / 64) / 2 ^ (from % 64) ≡ 0
    → (i : ℕ) → from ≤ i → i < (from / 64 + 1) * 64 → bit_of f i ≡ false
unfolding bit_of
none_in_word f from none i high below =
    let word : ℕ = f (from / 64) in
    let r : ℕ = from % 64 in
    let d : ℕ = i - from in
    let at : i / 64 ≡ from / 64 = omega arith in
    let at_bit : i % 64 ≡ r + d = omega arith in
    let clear : bit_at word (r + d) ≡ 0 = sym (bit_at-shr word r d) ∙ (ap (λ x. bit_at x d) none ∙ bit_at-zero d) in
    rw (at, at_bit, clear) refl

-- a word further on
pub next_in_later : (f : ℕ → ℕ) (from k : ℕ) → f k < 2 ^ 64 → 0 < f k → from ≤ k * 64
    → ((i : ℕ) → from ≤ i → i < k * 64 → bit_of f i ≡ false)
    → IsNext (bit_of f) from (k * 64 + trailing_zeros w64 (f k))
unfolding bit_of
next_in_later f from k fits some above before =
    let low = bit_at-trailing_zeros w64 (f k) some fits in
    let tz : ℕ = trailing_zeros w64 (f k) in
    let index_is : (k * 64 + tz) / 64 ≡ k = omega arith in
    let bit : (k * 64 + tz) % 64 ≡ tz = omega arith in
    record {
      above = omega arith;
      passes = rw (index_is, bit, low.1) refl;
      skipped = λ i high below.
          elim (cases_lt i (k * 64)) [
            | inl early ↦ before i high early
            | inr late ↦
                let at : i / 64 ≡ k = omega arith in
                let clear : bit_at (f k) (i % 64) ≡ 0 = low.2 (i % 64) (omega arith) in
                rw (at, clear) refl
          ];
    }

-- a word further on that has none
pub none_in_later : (f : ℕ → ℕ) (from k : ℕ) → f k ≡ 0
    → ((i : ℕ) → from ≤ i → i < k * 64 → bit_of f i ≡ false)
    → (i : ℕ) → from ≤ i → i < (k + 1) * 64 → bit_of f i ≡ false
unfolding bit_of
none_in_later f from k none before i high below =
    elim (cases_lt i (k * 64)) [
      | inl early ↦ before i high early
      | inr late ↦ let at : i / 64 ≡ k = omega arith in rw (at, none, bit_at-zero (i % 64)) refl
    ]

-- ---- how many bits are set
-- a bit of a word that is 0 or 1
ones_small : (r : ℕ) → r < 2 → ones r ≡ r
unfolding ones
ones_small zero h = refl
ones_small (suc zero) h = refl
ones_small (suc (suc r)) h = absurd (omega arith)

first_counts : (a r : ℕ) (xs : List ℕ) (b : Bool) → b ≡ nat_eq r 1 → r < 2 → length (cond b (a ∷ xs) xs) ≡ r + length xs
first_counts a zero xs b e h = rw e (omega arith)
first_counts a (suc zero) xs b e h = rw e (omega arith)
first_counts a (suc (suc r)) xs b e h = absurd (omega arith)

-- the indices of a range that pass, where the test reads the bits of a word
pub count_word : (n w a : ℕ) (p : ℕ → Bool) → w < 2 ^ n → ((j : ℕ) → j < n → p (a + j) ≡ nat_eq (bit_at w j) 1)
    → length (filter p (range_with_len a n)) ≡ ones w
count_word zero w a p small each = let none : w ≡ 0 = omega arith in rw none (sym (ones_small 0 (omega arith)))
count_word (suc n) w a p small each =
    let half : w / 2 < 2 ^ n = shr_below w n 1 (let f : n + 1 ≡ suc n = omega arith in rw f small) in
    let later : length (filter p (range_with_len (a + 1) n)) ≡ ones (w / 2) =
    count_word n (w / 2) (a + 1) p half
    (λ j low.
    let index_is : a + 1 + j ≡ a + suc j = omega arith in
    rw index_is (each (suc j) (omega arith) ∙ ap (λ b. nat_eq b 1) (bit_at-suc w j))) in
    let here : p a ≡ nat_eq (w % 2) 1 = let e = each 0 (omega arith) in simp (add-zero, bit_at_lowest) at e in
    let parts : ones w ≡ ones (w / 2) + ones (w % 2) = let cat = ones_cat 1 (w / 2) (w % 2) (omega arith) in let e : w / 2 * 2 ^ 1 + w % 2 ≡ w = omega arith in rw e at cat in
    first_counts a (w % 2) (filter p (range_with_len (a + 1) n)) (p a) here (omega arith)
    ∙ omega (arith, later, parts, ones_small (w % 2) (omega arith))

-- one word more
pub count_more : (words : List ℕ) (k : ℕ) → get_or words k 0 < 2 ^ 64
    → length (filter (has_bit words) (upto ((k + 1) * 64))) ≡ length (filter (has_bit words) (upto (k * 64))) + ones (get_or words k 0)
unfolding bit_of
count_more words k fits =
    let p : ℕ → Bool = has_bit words in
    let more : (k + 1) * 64 ≡ k * 64 + 64 = omega arith in
    let word : length (filter p (range_with_len (k * 64) 64)) ≡ ones (get_or words k 0) =
    count_word 64 (get_or words k 0) (k * 64) p fits
    (λ j low.
    let index_is : (k * 64 + j) / 64 ≡ k = omega arith in
    let bit : (k * 64 + j) % 64 ≡ j = omega arith in
    rw (index_is, bit) refl) in
    rw (more, filter_split p (k * 64) 64, length-append) (ap (λ n. length (filter p (upto (k * 64))) + n) word)

-- ---- the bits that meet a condition
-- where no bit is set there is none to keep
pub keeps_zero : (holds : ℕ → Bool) (old : ℕ) → old ≡ 0 → KeepsBits holds old 0
keeps_zero holds old none bit _ = rw (none, bit_at-zero bit) refl

-- the bits below one of them are kept that meet a condition, and the others are as they were
pub record KeepsBelow (holds : ℕ → Bool) (below old new : ℕ) : Type 0 where
  pub done : (bit : ℕ) → bit < below → nat_eq (bit_at new bit) 1 ≡ (nat_eq (bit_at old bit) 1 && holds bit)
  pub rest : (bit : ℕ) → below ≤ bit → bit < 64 → bit_at new bit ≡ bit_at old bit

-- one more does
pub keeps_met : (holds : ℕ → Bool) (n old new : ℕ) → n < 64 → KeepsBelow holds n old new
    → nat_eq (bit_at old n) 1 ≡ (nat_eq (bit_at old n) 1 && holds n) → KeepsBelow holds (n + 1) old new
keeps_met holds n old new within before met =
    record {
      done = λ bit low.
          elim (cases_eq bit n) [
            | inl same ↦ rw same (ap (λ b. nat_eq b 1) (before.rest n (omega arith) within) ∙ met)
            | inr other ↦ before.done bit (omega arith)
          ];
      rest = λ bit high small. before.rest bit (omega arith) small;
    }

-- one more does not
pub keeps_unmet : (holds : ℕ → Bool) (n old new : ℕ) → n < 64 → KeepsBelow holds n old new → holds n ≡ false
    → KeepsBelow holds (n + 1) old (bit_and new (bit_not w64 (1 * 2 ^ n % 2 ^ 64)))
keeps_unmet holds n old new within before unmet =
    record {
      done = λ bit low.
          elim (cases_eq bit n) [
            | inl same ↦ rw (same, bit_at_clear_same w64 new n within, unmet) (sym (and_right (nat_eq (bit_at old n) 1) false refl))
            | inr other ↦ rw (bit_at_clear_other w64 new n within bit (omega arith) other) (before.done bit (omega arith))
          ];
      rest = λ bit high small. bit_at_clear_other w64 new n within bit small (omega arith) ∙ before.rest bit (omega arith) small;
    }

-- the bits after that of an index is cleared
pub clear_has : (words : List ℕ) (index i : ℕ) → index / 64 < length words
    → has_bit (set words (index / 64) (bit_and (get_or words (index / 64) 0) (bit_not w64 (1 * 2 ^ (index % 64) % 2 ^ 64)))) i ≡ (has_bit words i && not (nat_eq i index))
unfolding bit_of
clear_has words index i within =
    let word : ℕ = get_or words (index / 64) 0 in
    let less : ℕ = bit_and word (bit_not w64 (1 * 2 ^ (index % 64) % 2 ^ 64)) in
    elim (cases_eq (i / 64) (index / 64)) [
      | inl same ↦
          let at : get_or (set words (index / 64) less) (i / 64) 0 ≡ less = rw same (get_or-set_same words (index / 64) less 0 within) in
          elim (cases_eq (i % 64) (index % 64)) [
            | inl bit ↦
                let is : i ≡ index = omega arith in
                let none : bit_at less (i % 64) ≡ 0 = rw bit (bit_at_clear_same w64 word (index % 64) (omega arith)) in
                rw (at, none, eq-eqb i index is) (sym (and_right (nat_eq (bit_at (get_or words (i / 64) 0) (i % 64)) 1) false refl))
            | inr bit ↦
                let differs : i ≡ index → ⊥ = λ e. bit (ap (λ n. n % 64) e) in
                let kept : bit_at less (i % 64) ≡ bit_at word (i % 64) = bit_at_clear_other w64 word (index % 64) (omega arith) (i % 64) (omega arith) bit in
                rw (at, kept, ne_eqb i index differs) (rw same (sym (and-true (nat_eq (bit_at word (i % 64)) 1))))
          ]
      | inr other ↦
          let differs : i ≡ index → ⊥ = λ e. other (ap (λ n. n / 64) e) in
          rw (get_or-set_other words (index / 64) (i / 64) less 0 other, ne_eqb i index differs) (sym (and-true (nat_eq (bit_at (get_or words (i / 64) 0) (i % 64)) 1)))
    ]

-- past the last word there is none
pub clear_past_has : (words : List ℕ) (index i : ℕ) → length words ≤ index / 64 → has_bit words i ≡ (has_bit words i && not (nat_eq i index))
clear_past_has words index i past =
    elim (cases_eq i index) [
      | inl same ↦
          let unset : has_bit words i ≡ false = rw same (sym (not_set words index past)) in
          rw unset refl
      | inr other ↦ rw (ne_eqb i index other) (sym (and-true (has_bit words i)))
    ]

-- the bits of one more word
pub word_kept : (holds : ℕ → Bool) (old now : List ℕ) (k word : ℕ) → k < length now → get_or now k 0 ≡ get_or old k 0
    → KeepsBits (λ bit. holds (k * 64 + bit)) (get_or now k 0) word → ((i : ℕ) → i < k * 64 → has_bit now i ≡ (has_bit old i && holds i))
    → (i : ℕ) → i < (k + 1) * 64 → has_bit (set now k word) i ≡ (has_bit old i && holds i)
unfolding bit_of
word_kept holds old now k word within same kept before i low =
    elim (cases_lt i (k * 64)) [
      | inl early ↦ rw (get_or-set_other now k (i / 64) word 0 (λ e. omega arith)) (before i early)
      | inr late ↦
          let index_is : i / 64 ≡ k = omega arith in
          let index : k * 64 + i % 64 ≡ i = omega arith in
          rw (index_is, get_or-set_same now k word 0 within, kept (i % 64) (omega arith), same, index) refl
    ]

-- past the words there are none
pub past_kept : (holds : ℕ → Bool) (old now : List ℕ) (i : ℕ) → length now ≡ length old → length old ≤ i / 64 → has_bit now i ≡ (has_bit old i && holds i)
past_kept holds old now i same past =
    sym (not_set now i (omega arith)) ∙ sym (and_left (has_bit old i) (holds i) (sym (not_set old i past)))

-- ---- the members of a set that is stored as bits of words
-- a range from 0 on
pub members_upto : (words : List ℕ) → members_of words ≡ filter (has_bit words) (upto (length words * 64))
members_upto words = ap (λ n. filter (has_bit words) (upto n)) (sub-zero (length words * 64))

-- the members from an index on, where there is a next one
pub next_member : (words : List ℕ) (from i : ℕ) → IsNext (has_bit words) from i → members_from words from ≡ i ∷ members_from words (i + 1)
next_member words from i next = filter-next (has_bit words) from i (length words * 64) (clear_past words) next

-- and where there is none
pub no_members : (words : List ℕ) (from : ℕ) → ((i : ℕ) → from ≤ i → has_bit words i ≡ false) → members_from words from ≡ []
no_members words from clear = filter_none (has_bit words) from (length words * 64 - from) (λ i high _. clear i high)

-- an index is a member where its bit is set
pub has_members : (words : List ℕ) (i : ℕ) → has_bit words i ≡ has_index (members_of words) i
has_members words i =
    sym (ap (λ members. has_index members i) (members_upto words) ∙ has_passing (has_bit words) (length words * 64) i (clear_past words))

-- so no bit is set where there is no member
pub no_bits : (words : List ℕ) → members_of words ≡ [] → (i : ℕ) → has_bit words i ≡ false
no_bits words none i = has_members words i ∙ ap (λ members. has_index members i) none

-- the members are below the bound
pub members_below : (words : List ℕ) (bound : ℕ) → HoldBelow bound words → members_of words ≡ filter (has_bit words) (upto bound)
members_below words bound hold =
    let count = hold.count in
    let room : bound ≤ length words * 64 = omega arith in
    members_upto words ∙ filter_cut (has_bit words) (length words * 64) bound room hold.clear

-- the members that meet a condition
pub members_kept : (before after : List ℕ) (holds : ℕ → Bool) → length after ≡ length before
    → ((i : ℕ) → has_bit after i ≡ (has_bit before i && holds i)) → members_of after ≡ filter holds (members_of before)
members_kept before after holds count each =
    ap (λ n. filter (has_bit after) (range_with_len 0 (n * 64 - 0))) count
    ∙ filter_same (has_bit after) (λ i. has_bit before i && holds i) 0 (length before * 64 - 0) (λ i _ _. each i)
    ∙ sym (filter_filter (has_bit before) holds (range_with_len 0 (length before * 64 - 0)))

-- they rise
pub members_rise : (words : List ℕ) → IsStrictlyIncreasing (members_of words)
members_rise words = rw (members_upto words) (filter-rises (has_bit words) (length words * 64))

-- and are below the bound
pub members_within : (words : List ℕ) (bound : ℕ) → HoldBelow bound words → All (λ i. i < bound) (members_of words)
members_within words bound hold = rw (members_below words bound hold) (filter-below (has_bit words) bound)

-- those of all indices below a bound
pub full_members : (words : List ℕ) (bound : ℕ) → HoldBelow bound words → IsFull bound words → members_of words ≡ upto bound
full_members words bound hold full =
    members_below words bound hold ∙ filter_all (has_bit words) 0 bound (λ i _ low. full i ∙ lt-ltb i bound (omega arith))
