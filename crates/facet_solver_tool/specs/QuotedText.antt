-- Texts as strings of JSON.
use Rattle.std.specs.Prelude.{ℕ, [], ◌∷◌, ◌++◌, codes, ◌==◌, ◌/◌, ◌%◌, nat_lt, if◌then◌else◌, encode_utf8}
use Rattle.std.specs.Char.{digit_char}
use Rattle.std.specs.List.{flat_map}
use Rattle.std.specs.Str.{chars}
use Rattle.facet_solver_shape.specs.Names.{Name}

-- a control character by its two digits of base 16
abbrev pub numbered : ℕ → Name
numbered c = codes "\\u00" ++ digit_char (c / 16) ∷ digit_char (c % 16) ∷ []

-- a character of a string, as itself or as an escape
abbrev pub escaped : ℕ → Name
escaped c =
    if c == 34 then codes "\\\""
    else if c == 92 then codes "\\\\"
    else if c == 10 then codes "\\n"
    else if c == 13 then codes "\\r"
    else if c == 9 then codes "\\t"
    else if nat_lt c 32 then numbered c
    else encode_utf8 c

-- what stands for a text between quotes
abbrev pub between_quotes : Name → Name
between_quotes text = flat_map escaped (chars text)

-- a text as a string
abbrev pub quoted : Name → Name
quoted text = codes "\"" ++ (between_quotes text ++ codes "\"")
