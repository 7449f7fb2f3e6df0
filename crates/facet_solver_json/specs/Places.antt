-- Where in a text an offset is.
use Rattle.std.specs.Prelude.{ℕ, ◌+◌, List, take, reverse, length, ◌≡◌, ◌≤◌, ⊤, Bool, not, ◌==◌, ◌||◌, nat_le, nat_lt}
use Rattle.std.specs.List.{count_by, take_while}
use Rattle.facet_solver_json.specs.declared.error.JsonError.{JsonError}
use Rattle.facet_solver_json.specs.declared.error.JsonError.TheVariants.{Invalid, OutOfMemory}
use Rattle.facet_solver_json.specs.declared.value.Wanted.{Wanted}
use Rattle.facet_solver_json.specs.Reasons.{reason_at}

-- whether a byte ends a line
abbrev pub is_line_feed : ℕ → Bool
is_line_feed byte = byte == 10

-- whether a character of UTF-8 begins with a byte: the bytes from 128 to 191 continue one
abbrev pub begins_character : ℕ → Bool
begins_character byte = nat_lt byte 128 || nat_le 192 byte

-- the line of an offset, from 1
abbrev pub line_at : ℕ → List ℕ → ℕ
line_at offset text = 1 + count_by is_line_feed (take offset text)

-- the column after some bytes, from 1: one more than the characters since the last line feed
abbrev pub column_after : List ℕ → ℕ
column_after bytes =
    1 + count_by begins_character (take_while (λ byte. not (is_line_feed byte)) (reverse bytes))

-- the column of an offset
abbrev pub column_at : ℕ → List ℕ → ℕ
column_at offset text = column_after (take offset text)

-- the error tells the line and the column of an offset of the text, where it tells any, and why
-- something that was wanted is not there
abbrev pub HasPlace : JsonError → List ℕ → Type 0
HasPlace (Invalid line column reason) text = (offset : ℕ) × (offset ≤ length text)
    × (line ≡ line_at offset text) × (column ≡ column_at offset text)
    × ((wanted : Wanted) × (reason ≡ reason_at offset text wanted))
HasPlace OutOfMemory text = ⊤
