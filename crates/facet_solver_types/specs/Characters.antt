-- Blanks and the characters of names, as bytes of UTF-8.
use Rattle.std.specs.Prelude.{ℕ, suc, Bool, not, ◌&&◌, ◌||◌, ◌==◌, nat_le, if◌then◌else◌, List, [], ◌∷◌, slice_index}
use Rattle.std.specs.Char.{is_ascii_alphanumeric, is_ascii_digit}
use Rattle.facet_solver_types.specs.Ascii as ascii

-- whether a byte ends the UTF-8 of U+200E, U+200F, U+2028 or U+2029, which begin with e2 80
abbrev pub is_late_blank : ℕ → Bool
is_late_blank byte = byte == 0x8e || byte == 0x8f || byte == 0xa8 || byte == 0xa9

-- how many bytes the blank takes that stands first, or 0 where none does
unfoldable pub blank_len : List ℕ → ℕ
blank_len text =
    let first = slice_index text 0 in
    let second = slice_index text 1 in
    if first == ascii.blank || (nat_le ascii.tab first && nat_le first ascii.carriage_return) then 1
    else (if first == 0xc2 && second == 0x85 then 2
    else (if first == 0xe2 && second == 0x80 && is_late_blank (slice_index text 2) then 3
    else 0))

-- whether a letter, a digit or `_` stands first; past ASCII a letter is what is no blank
unfoldable pub continues_name : List ℕ → Bool
continues_name text =
    let first = slice_index text 0 in
    is_ascii_alphanumeric first || first == ascii.underscore
    || (nat_le 0x80 first && blank_len text == 0)

-- whether a letter or `_` stands first
abbrev pub begins_name : List ℕ → Bool
begins_name text = continues_name text && not (is_ascii_digit (slice_index text 0))

-- how many bytes the letters, digits and `_` take that stand first
abbrev pub word_len : List ℕ → ℕ
word_len [] = 0
word_len (byte ∷ bytes) = if continues_name (byte ∷ bytes) then suc (word_len bytes) else 0
