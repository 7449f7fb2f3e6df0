-- What two sets share, as bits of their words.
use Rattle.std.proofs.Common.{◌≡◌, ℕ, zero, suc, ◌+◌, ◌-◌, ◌*◌, ◌/◌, ◌%◌, ◌^◌, ◌<◌, ◌≤◌, max, min, false, ◌&&◌, ◌||◌, inl, inr, nat_eq, List, [], ◌∷◌, filter, length, get_or, set, refl, ap, sym, ◌∙◌, arith, eq-eqb, ne_eqb, replicate, w64, get_or-set_other, get_or-set_same}
use Rattle.std.proofs.lemmas.Bool.{and_left, cases_eq, cases_lt}
use Rattle.std.proofs.lemmas.List.{get_or_past, get_or-replicate, length-replicate}
use Rattle.std.proofs.lemmas.Nat.Bits.{bit_at_and, bit_at_or, bit_at-zero, bit_at-lt, bit_at_set_same, bit_at_set_other, bit_at_above, bit_at-trailing_zeros}
use Rattle.std.proofs.lemmas.Nat.{shr_le}
use Rattle.std.specs.Int.{bit_at, trailing_zeros}
use Rattle.std.specs.List.{range_with_len}
use Rattle.std.specs.Prelude.{bit_and, bit_or}
use Rattle.facet_solver.specs.set.IndexSet.{has_index, upto}
use Rattle.facet_solver.specs.set.SharedBits.{IsNext, IsNextShared, NoneBetween, common_bit, common_from}
use Rattle.facet_solver.specs.set.Words.{HoldBelow, IsClearFrom, bit_of, has_bit, members_of}
use Rattle.facet_solver.proofs.Words.{bit_at-shr, clear_of_zeros, clear_past, next_in_later, has_members, members_below}
use Rattle.facet_solver.proofs.IndexSet.{filter-next, filter_filter, filter_none, filter_same}

-- one bit more
pub insert_has : (words : List ℕ) (index i : ℕ) → index / 64 < length words
    → has_bit (set words (index / 64) (bit_or (get_or words (index / 64) 0) (1 * 2 ^ (index % 64) % 2 ^ 64))) i ≡ (nat_eq i index || has_bit words i)
unfolding bit_of
insert_has words index i within =
    let word : ℕ = get_or words (index / 64) 0 in
    let more : ℕ = bit_or word (1 * 2 ^ (index % 64) % 2 ^ 64) in
    elim (cases_eq (i / 64) (index / 64)) [
      | inl same ↦
          let at : get_or (set words (index / 64) more) (i / 64) 0 ≡ more = rw same (get_or-set_same words (index / 64) more 0 within) in
          elim (cases_eq (i % 64) (index % 64)) [
            | inl bit ↦
                let is : i ≡ index = omega arith in
                let one : bit_at more (i % 64) ≡ 1 = rw bit (bit_at_set_same w64 word (index % 64) (omega arith)) in
                rw (at, one, eq-eqb i index is) refl
            | inr bit ↦
                let differs : i ≡ index → ⊥ = λ e. bit (ap (λ n. n % 64) e) in
                let kept : bit_at more (i % 64) ≡ bit_at word (i % 64) = bit_at_set_other w64 word (index % 64) (omega arith) (i % 64) bit in
                rw (at, kept, ne_eqb i index differs) (rw same refl)
          ]
      | inr other ↦
          let differs : i ≡ index → ⊥ = λ e. other (ap (λ n. n / 64) e) in
          rw (get_or-set_other words (index / 64) (i / 64) more 0 other, ne_eqb i index differs) refl
    ]

both : (x y : ℕ) → x < 2 → y < 2 → nat_eq (min x y) 1 ≡ (nat_eq x 1 && nat_eq y 1)
both zero zero p q = refl
both zero (suc zero) p q = refl
both (suc zero) zero p q = refl
both (suc zero) (suc zero) p q = refl
both (suc (suc x)) y p q = absurd (omega arith)
both x (suc (suc y)) p q = absurd (omega arith)

-- a bit of both words
pub bit_of_and : (f g h : ℕ → ℕ) (i : ℕ) → ((k : ℕ) → h k ≡ bit_and (f k) (g k)) → bit_of h i ≡ (bit_of f i && bit_of g i)
unfolding bit_of
bit_of_and f g h i each =
    let x : ℕ = bit_at (f (i / 64)) (i % 64) in
    let y : ℕ = bit_at (g (i / 64)) (i % 64) in
    let is : bit_at (h (i / 64)) (i % 64) ≡ min x y = ap (λ w. bit_at w (i % 64)) (each (i / 64)) ∙ bit_at_and (f (i / 64)) (g (i / 64)) (i % 64) in
    let low = bit_at-lt (f (i / 64)) (i % 64) in
    let low2 = bit_at-lt (g (i / 64)) (i % 64) in
    rw is (both x y low low2)

-- the lowest bit from a place on lies in the word
pub lowest_within : (word r : ℕ) → word < 2 ^ 64 → 0 < word / 2 ^ r → r + trailing_zeros w64 (word / 2 ^ r) < 64
lowest_within word r fits some =
    let low = bit_at-trailing_zeros w64 (word / 2 ^ r) some (let small = shr_le word r in omega arith) in
    let tz : ℕ = trailing_zeros w64 (word / 2 ^ r) in
    let set : bit_at word (r + tz) ≡ 1 = sym (bit_at-shr word r tz) ∙ low.1 in
    elim (cases_lt (r + tz) 64) [
      | inl small ↦ small
      | inr large ↦ absurd (let none : bit_at word (r + tz) ≡ 0 = bit_at_above word 64 (r + tz) fits large in omega arith)
    ]

-- words that are 0 have no bit
pub none_between : (f : ℕ → ℕ) (place k : ℕ) → ((m : ℕ) → place ≤ m → m < k → f m ≡ 0) → NoneBetween (bit_of f) (place * 64) (k * 64)
unfolding bit_of
none_between f place k none i high below =
    let word : f (i / 64) ≡ 0 = none (i / 64) (omega arith) (omega arith) in
    rw (word, bit_at-zero (i % 64)) refl

-- the next number lies in a word further on
pub next_by_words : (f : ℕ → ℕ) (from place below : ℕ) (found : ℕ × ℕ) → from ≤ place * 64 → NoneBetween (bit_of f) from (place * 64) → IsNextShared f place below found
    → IsNext (bit_of f) from (found.0 * 64 + trailing_zeros w64 found.1)
next_by_words f from place below found low before next =
    let above : place ≤ found.0 = next.above in
    let some : 0 < f found.0 = rw (sym next.is) next.some in
    let small : f found.0 < 2 ^ 64 = rw (sym next.is) next.fits in
    rw next.is (next_in_later f from found.0 small some (omega arith)
    (λ i high early.
    elim (cases_lt i (place * 64)) [
      | inl first ↦ before i high first
      | inr later ↦ none_between f place found.0 next.skipped i later early
    ]))

-- or there is none
pub none_by_words : (f : ℕ → ℕ) (from place : ℕ) → NoneBetween (bit_of f) from (place * 64) → ((k : ℕ) → place ≤ k → f k ≡ 0) → (i : ℕ) → from ≤ i → bit_of f i ≡ false
none_by_words f from place before none i high =
    elim (cases_lt i (place * 64)) [
      | inl first ↦ before i high first
      | inr later ↦ none_between f place (i / 64 + 1) (λ m low _. none m low) i later (omega arith)
    ]

-- an index of both
pub common_is : (words others : List ℕ) (i : ℕ) → common_bit words others i ≡ (has_bit words i && has_bit others i)
common_is words others i =
    bit_of_and (λ k. get_or words k 0) (λ k. get_or others k 0) (λ k. bit_and (get_or words k 0) (get_or others k 0)) i (λ k. refl)

pub common_clear : (words others : List ℕ) (bound : ℕ) → IsClearFrom words bound → (i : ℕ) → bound ≤ i → common_bit words others i ≡ false
common_clear words others bound clear i high = common_is words others i ∙ and_left (has_bit words i) (has_bit others i) (clear i high)

-- those of no index
pub zeros_clear : (n i : ℕ) → has_bit (replicate n 0) i ≡ false
zeros_clear n i =
    clear_of_zeros (replicate n 0)
    (λ k.
    elim (cases_lt k n) [
      | inl within ↦ get_or-replicate n k 0 0 within
      | inr past ↦ get_or_past (replicate n 0) k 0 (omega (arith, length-replicate {A = ℕ}))
    ])
    i

pub no_members_of_zeros : (n : ℕ) → members_of (replicate n 0) ≡ []
no_members_of_zeros n = filter_none (has_bit (replicate n 0)) 0 (length (replicate n 0) * 64 - 0) (λ i _ _. zeros_clear n i)

-- one member more
pub members_more : (before after : List ℕ) (bound index : ℕ) → HoldBelow bound after
    → ((i : ℕ) → has_bit after i ≡ (nat_eq i index || has_bit before i))
    → members_of after ≡ filter (λ i. nat_eq i index || has_index (members_of before) i) (upto bound)
members_more before after bound index hold each =
    members_below after bound hold
    ∙ filter_same (has_bit after) (λ i. nat_eq i index || has_index (members_of before) i) 0 bound
    (λ i _ _. each i ∙ ap (λ b. nat_eq i index || b) (has_members before i))

-- the members that another set has too
pub members_common : (words others : List ℕ) → common_from words others 0 ≡ filter (has_index (members_of others)) (members_of words)
members_common words others =
    filter_same (common_bit words others) (λ i. has_bit words i && has_index (members_of others) i) 0 (length words * 64 - 0)
    (λ i _ _. common_is words others i ∙ ap (λ b. has_bit words i && b) (has_members others i))
    ∙ sym (filter_filter (has_bit words) (has_index (members_of others)) (range_with_len 0 (length words * 64 - 0)))

-- those from an index on, where there is a next one
pub next_common : (words others : List ℕ) (from i : ℕ) → IsNext (common_bit words others) from i → common_from words others from ≡ i ∷ common_from words others (i + 1)
next_common words others from i next =
    filter-next (common_bit words others) from i (length words * 64) (λ j past. common_clear words others (length words * 64) (clear_past words) j past) next

-- and where there is none
pub none_common : (words others : List ℕ) (from : ℕ) → ((i : ℕ) → from ≤ i → common_bit words others i ≡ false) → common_from words others from ≡ []
none_common words others from none = filter_none (common_bit words others) from (length words * 64 - from) (λ i high _. none i high)

either : (x y : ℕ) → x < 2 → y < 2 → nat_eq (max x y) 1 ≡ (nat_eq x 1 || nat_eq y 1)
either zero zero p q = refl
either zero (suc zero) p q = refl
either (suc zero) zero p q = refl
either (suc zero) (suc zero) p q = refl
either (suc (suc x)) y p q = absurd (omega arith)
either x (suc (suc y)) p q = absurd (omega arith)

-- a bit of either word
bit_of_or : (f g : ℕ → ℕ) (i : ℕ) → bit_of (λ k. bit_or (f k) (g k)) i ≡ (bit_of f i || bit_of g i)
unfolding bit_of
bit_of_or f g i =
    let x : ℕ = bit_at (f (i / 64)) (i % 64) in
    let y : ℕ = bit_at (g (i / 64)) (i % 64) in
    let low = bit_at-lt (f (i / 64)) (i % 64) in
    let low2 = bit_at-lt (g (i / 64)) (i % 64) in
    rw (bit_at_or (f (i / 64)) (g (i / 64)) (i % 64)) (either x y low low2)

-- a bit of one word that either of two others has
pub bit_of_either : (f g e h : ℕ → ℕ) (i : ℕ) → ((k : ℕ) → h k ≡ bit_and (f k) (bit_or (g k) (e k))) → bit_of h i ≡ (bit_of f i && (bit_of g i || bit_of e i))
bit_of_either f g e h i each = bit_of_and f (λ k. bit_or (g k) (e k)) h i each ∙ ap (λ b. bit_of f i && b) (bit_of_or g e i)
