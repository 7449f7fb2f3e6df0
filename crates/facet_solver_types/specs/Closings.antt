-- Where a text, a character or a comment ends.
use Rattle.std.specs.Prelude.{ℕ, ◌+◌, ◌-◌, Bool, true, false, not, ◌&&◌, ◌==◌, nat_le, if◌then◌else◌, List, [], ◌∷◌, Option, Some, None, slice_index}
use Rattle.std.specs.List.{prefix_len}
use Rattle.facet_solver_types.specs.Ascii as ascii

-- the offset of the quote that closes, for bytes at an offset; one that `\` has passed does not
abbrev pub closing : ℕ → Bool → ℕ → List ℕ → Option ℕ
closing quote passed at [] = None
closing quote true at (byte ∷ bytes) = closing quote false (at + 1) bytes
closing quote false at (byte ∷ bytes) =
    if byte == quote then Some at else closing quote (byte == ascii.backslash) (at + 1) bytes

-- how many `#` stand first
abbrev pub hashes : List ℕ → ℕ
hashes text = prefix_len (λ byte. byte == ascii.hash) text

-- the offset of the first `"` that so many `#` follow, for bytes at an offset
abbrev pub raw_closing : ℕ → ℕ → List ℕ → Option ℕ
raw_closing count at [] = None
raw_closing count at (byte ∷ bytes) =
    if byte == ascii.quote && nat_le count (hashes bytes) then Some at
    else raw_closing count (at + 1) bytes

-- the offset after the `*/` that closes a comment, in which `depth` others are open
abbrev pub comment_end : ℕ → Bool → ℕ → List ℕ → Option ℕ
comment_end depth passed at [] = None
comment_end depth true at (byte ∷ bytes) = comment_end depth false (at + 1) bytes
comment_end depth false at (byte ∷ bytes) =
    if byte == ascii.slash && slice_index bytes 0 == ascii.star
    then comment_end (depth + 1) true (at + 1) bytes
    else (if byte == ascii.star && slice_index bytes 0 == ascii.slash
    then (if depth == 0 then Some (at + 2) else comment_end (depth - 1) true (at + 1) bytes)
    else comment_end depth false (at + 1) bytes)

-- the offset of the line feed that ends a line, or of the end
abbrev pub line_end : ℕ → List ℕ → ℕ
line_end at bytes = at + prefix_len (λ byte. not (byte == ascii.line_feed)) bytes
