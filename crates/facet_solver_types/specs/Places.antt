-- Where in a text an offset is.
use Rattle.std.specs.Prelude.{ℕ, ◌+◌, List, [], ◌∷◌, take, drop, reverse, Bool, not, ◌==◌, ◌||◌, if◌then◌else◌, nat_eq, nat_le, nat_lt}
use Rattle.std.specs.List.{count_by, starts_with, take_while}
use Rattle.facet_solver_types.specs.Ascii as ascii
use Rattle.facet_solver_types.specs.declared.place.Place.{Place}

-- whether a byte ends a line
abbrev pub is_line_feed : ℕ → Bool
is_line_feed byte = byte == ascii.line_feed

-- whether a character of UTF-8 begins with a byte: the bytes from 128 to 191 continue one
abbrev pub begins_character : ℕ → Bool
begins_character byte = nat_lt byte 128 || nat_le 192 byte

-- the line of an offset, from 1
abbrev pub line_at : ℕ → List ℕ → ℕ
line_at offset text = 1 + count_by is_line_feed (take offset text)

-- the column after some bytes, from 1: one more than the characters since the last line feed
abbrev pub column_after : List ℕ → ℕ
column_after bytes =
    1 + count_by begins_character (take_while (λ byte. not (is_line_feed byte)) (reverse bytes))

-- the column of an offset
abbrev pub column_at : ℕ → List ℕ → ℕ
column_at offset text = column_after (take offset text)

-- the place of an offset
abbrev pub place_at : ℕ → List ℕ → Place
place_at offset text = record { line = line_at offset text; column = column_at offset text }

-- the byte order mark, U+FEFF
abbrev pub byte_order_mark : List ℕ
byte_order_mark = 0xef ∷ 0xbb ∷ 0xbf ∷ []

-- a text without a byte order mark that stands first
abbrev pub without_mark : List ℕ → List ℕ
without_mark text = if starts_with nat_eq text byte_order_mark then drop 3 text else text
