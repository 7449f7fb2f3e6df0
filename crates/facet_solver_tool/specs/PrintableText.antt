-- Texts without control characters.
use Rattle.std.specs.Prelude.{ℕ, if◌then◌else◌, encode_utf8}
use Rattle.std.specs.Char.{is_control}
use Rattle.std.specs.List.{flat_map}
use Rattle.std.specs.Str.{chars}
use Rattle.facet_solver_shape.specs.Names.{Name}

-- a character, or U+FFFD in the place of a control character
abbrev pub replaced : ℕ → ℕ
replaced c = if is_control c then 65533 else c

-- what stands for a character
abbrev pub shown : ℕ → Name
shown c = encode_utf8 (replaced c)

-- what stands for a text
abbrev pub printable : Name → Name
printable text = flat_map shown (chars text)
