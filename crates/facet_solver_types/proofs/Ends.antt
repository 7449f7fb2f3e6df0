-- What stands where a text, a character or a comment ends.
use Rattle.std.proofs.Common.{◌≡◌, ℕ, zero, suc, ◌+◌, ◌-◌, ◌<◌, ◌≤◌, Bool, true, false, ◌&&◌, ◌==◌, cond, List, [], ◌∷◌, length, get_or, drop, Some, refl, ap, sym, ◌∙◌, arith, length-drop, get_or-drop}
use Rattle.std.specs.Prelude.{not, nat_le, slice_index}
use Rattle.std.specs.List.{prefix_len}
use Rattle.std.proofs.lemmas.Bool.Decides.{nat_tests}
use Rattle.std.proofs.lemmas.List.Sums.{prefix_len-le-length, prefix_len_passes, prefix_len_stops}
use Rattle.facet_solver_types.specs.Closings.{closing, comment_end, hashes, raw_closing}

-- a byte stands in some bytes, which begin at an offset
abbrev pub Stands : ℕ → ℕ → List ℕ → ℕ → Type 0
Stands byte from bytes at = (k : ℕ) × (at ≡ from + k) × (k < length bytes) × (get_or bytes k 0 ≡ byte)

-- so it does in the text that the bytes end
pub stands_in : (byte : ℕ) (text : List ℕ) (from at : ℕ) → from ≤ length text → Stands byte from (drop from text) at → (at < length text) × (get_or text at 0 ≡ byte)
stands_in byte text from at within (k, at_is, inside, is) =
    let len = length-drop from text in
    (omega (arith, len), ap (λ i. get_or text i 0) at_is ∙ sym (get_or-drop from text k 0) ∙ is)

-- and so it does after one byte more
one_later : (byte b from : ℕ) (bytes : List ℕ) (at : ℕ) → Stands byte (from + 1) bytes at → Stands byte from (b ∷ bytes) at
one_later byte b from bytes at (k, at_is, inside, is) = (suc k, omega arith, omega arith, is)

some_is : {A : Type 0} (a b : A) → Some a ≡ Some b → a ≡ b
some_is a b e = cc

-- ---- texts and characters with escapes

closing_by : (quote from b : ℕ) (bytes : List ℕ) (at : ℕ) (t : Bool) → (b == quote) ≡ t
    → ((p : Bool) → closing quote p (from + 1) bytes ≡ Some at → Stands quote (from + 1) bytes at)
    → cond t (Some from) (closing quote (b == 92) (from + 1) bytes) ≡ Some at → Stands quote from (b ∷ bytes) at
closing_by quote from b bytes at true is later e =
    let here = some_is from at e in (0, omega arith, omega arith, grind (arith, nat_tests))
closing_by quote from b bytes at false other later e = one_later quote b from bytes at (later (b == 92) e)

-- the quote stands where a text closes
pub closing_stands : (quote : ℕ) (passed : Bool) (from : ℕ) (bytes : List ℕ) (at : ℕ) → closing quote passed from bytes ≡ Some at → Stands quote from bytes at
closing_stands quote passed from [] at e = absurd (cc)
closing_stands quote true from (b ∷ bytes) at e = one_later quote b from bytes at (closing_stands quote false (from + 1) bytes at e)
closing_stands quote false from (b ∷ bytes) at e =
    closing_by quote from b bytes at (b == quote) refl (λ p. closing_stands quote p (from + 1) bytes at) e

-- ---- texts without escapes

-- a quote, and so many `#` after it
abbrev pub HashesStand : ℕ → ℕ → List ℕ → ℕ → Type 0
HashesStand count from bytes at =
    (k : ℕ) × (at ≡ from + k) × (k < length bytes) × (get_or bytes k 0 ≡ 34) × (count ≤ hashes (drop (k + 1) bytes))

raw_closing_by : (count from b : ℕ) (bytes : List ℕ) (at : ℕ) (t : Bool) → (b == 34 && nat_le count (hashes bytes)) ≡ t
    → (raw_closing count (from + 1) bytes ≡ Some at → HashesStand count (from + 1) bytes at)
    → cond t (Some from) (raw_closing count (from + 1) bytes) ≡ Some at → HashesStand count from (b ∷ bytes) at
raw_closing_by count from b bytes at true is later e =
    let here = some_is from at e in (0, omega arith, omega arith, grind (arith, nat_tests), grind (arith, nat_tests))
raw_closing_by count from b bytes at false other later e =
    let l = later e in
    let next : suc l.0 + 1 ≡ suc (l.0 + 1) = omega arith in
    (suc l.0, omega (arith, l.1), omega (arith, l.2), l.3, rw next l.4)

-- the quote and its `#` stand where a text without escapes closes
pub raw_closing_stands : (count from : ℕ) (bytes : List ℕ) (at : ℕ) → raw_closing count from bytes ≡ Some at → HashesStand count from bytes at
raw_closing_stands count from [] at e = absurd (cc)
raw_closing_stands count from (b ∷ bytes) at e =
    raw_closing_by count from b bytes at (b == 34 && nat_le count (hashes bytes)) refl (raw_closing_stands count (from + 1) bytes at) e

-- the last of them is a byte of ASCII
pub last_hash : (text : List ℕ) (count from at : ℕ) → from ≤ length text → HashesStand count from (drop from text) at → (at + count < length text) × (get_or text (at + count) 0 < 128) × (get_or text at 0 ≡ 34)
last_hash text zero from at within (k, at_is, inside, is, many) =
    let found = stands_in 34 text from at within (k, at_is, inside, is) in
    let same : at + 0 ≡ at = omega arith in
    (rw same found.0, rw same (omega (arith, found.1)), found.1)
last_hash text (suc n) from at within (k, at_is, inside, is, many) =
    let found = stands_in 34 text from at within (k, at_is, inside, is) in
    let after = drop (k + 1) (drop from text) in
    let fits = prefix_len-le-length (λ b. b == 35) after in
    let len = length-drop (k + 1) (drop from text) in
    let len2 = length-drop from text in
    let hash : (get_or after n 0 == 35) ≡ true = prefix_len_passes (λ b. b == 35) after n 0 (omega arith) in
    let place : from + (k + 1 + n) ≡ at + suc n = omega arith in
    let same : get_or after n 0 ≡ get_or text (at + suc n) 0 =
    get_or-drop (k + 1) (drop from text) n 0 ∙ get_or-drop from text (k + 1 + n) 0 ∙ ap (λ i. get_or text i 0) place in
    let is_hash : get_or after n 0 ≡ 35 = grind (arith, nat_tests, hash) in
    (omega (arith, fits, len, len2), omega (arith, same, is_hash), found.1)

-- ---- comments

-- the last byte of a comment
abbrev pub Ended : ℕ → List ℕ → ℕ → Type 0
Ended from bytes end = (k : ℕ) × (end ≡ from + k + 1) × (k < length bytes) × (get_or bytes k 0 ≡ 47)

ended_later : (b from : ℕ) (bytes : List ℕ) (end : ℕ) → Ended (from + 1) bytes end → Ended from (b ∷ bytes) end
ended_later b from bytes end (k, end_is, inside, is) = (suc k, omega arith, omega arith, is)

some_first : (bytes : List ℕ) (byte : ℕ) → 0 < byte → get_or bytes 0 0 ≡ byte → 0 < length bytes
some_first [] byte some is = absurd (omega arith)
some_first (b ∷ bytes) byte some is = omega arith

-- what a comment that goes on ends with
abbrev Later : ℕ → List ℕ → ℕ → Type 0
Later from bytes end = (depth : ℕ) (passed : Bool) → comment_end depth passed (from + 1) bytes ≡ Some end → Ended (from + 1) bytes end

comment_closes : (depth from b : ℕ) (bytes : List ℕ) (end : ℕ) (t : Bool) → get_or bytes 0 0 ≡ 47 → Later from bytes end
    → cond t (Some (from + 2)) (comment_end (depth - 1) true (from + 1) bytes) ≡ Some end → Ended from (b ∷ bytes) end
comment_closes depth from b bytes end true next later e =
    let here = some_is (from + 2) end e in
    let some = some_first bytes 47 (omega arith) next in
    (1, omega arith, omega arith, next)
comment_closes depth from b bytes end false next later e = ended_later b from bytes end (later (depth - 1) true e)

comment_ends : (depth from b : ℕ) (bytes : List ℕ) (end : ℕ) (t : Bool) → (b == 42 && slice_index bytes 0 == 47) ≡ t → Later from bytes end
    → cond t (cond (depth == 0) (Some (from + 2)) (comment_end (depth - 1) true (from + 1) bytes)) (comment_end depth false (from + 1) bytes) ≡ Some end
    → Ended from (b ∷ bytes) end
comment_ends depth from b bytes end true closes later e = comment_closes depth from b bytes end (depth == 0) (grind (arith, nat_tests)) later e
comment_ends depth from b bytes end false other later e = ended_later b from bytes end (later depth false e)

comment_nests : (depth from b : ℕ) (bytes : List ℕ) (end : ℕ) (t : Bool) → Later from bytes end
    → cond t (comment_end (depth + 1) true (from + 1) bytes) (cond (b == 42 && slice_index bytes 0 == 47) (cond (depth == 0) (Some (from + 2)) (comment_end (depth - 1) true (from + 1) bytes)) (comment_end depth false (from + 1) bytes)) ≡ Some end
    → Ended from (b ∷ bytes) end
comment_nests depth from b bytes end true later e = ended_later b from bytes end (later (depth + 1) true e)
comment_nests depth from b bytes end false later e = comment_ends depth from b bytes end (b == 42 && slice_index bytes 0 == 47) refl later e

-- a comment ends with a `/`
pub comment_ended : (depth : ℕ) (passed : Bool) (from : ℕ) (bytes : List ℕ) (end : ℕ) → comment_end depth passed from bytes ≡ Some end → Ended from bytes end
comment_ended depth passed from [] end e = absurd (cc)
comment_ended depth true from (b ∷ bytes) end e = ended_later b from bytes end (comment_ended depth false (from + 1) bytes end e)
comment_ended depth false from (b ∷ bytes) end e =
    comment_nests depth from b bytes end (b == 47 && slice_index bytes 0 == 42) (λ d p. comment_ended d p (from + 1) bytes end) e

-- ---- lines

-- a line ends with the text, or before a line feed
pub line_ended : (bytes : List ℕ) → prefix_len (λ byte. not (byte == 10)) bytes < length bytes → get_or bytes (prefix_len (λ byte. not (byte == 10)) bytes) 0 ≡ 10
line_ended bytes within =
    let stops = prefix_len_stops (λ byte. not (byte == 10)) bytes 0 within in grind (arith, nat_tests, stops)
