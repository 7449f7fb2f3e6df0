-- Names between double quotes with escapes, and lists of them, as `{:?}` prints a list of texts.
use Rattle.std.specs.Prelude.{ℕ, ◌/◌, ◌%◌, Bool, false, ◌||◌, ◌==◌, nat_lt, List, [], ◌∷◌, ◌++◌, Option, Some, None, codes, if◌then◌else◌}
use Rattle.std.specs.Char.{is_ascii}
use Rattle.std.specs.Fmt.{digit_glyph}
use Rattle.std.specs.List.{flat_map, list_all}
use Rattle.facet_solver_shape.specs.Names.{Name}

-- a number below 256 in lowercase hexadecimal digits, with no leading zero
abbrev pub hex : ℕ → List ℕ
hex c =
    if nat_lt c 16 then digit_glyph false c ∷ []
    else (digit_glyph false (c / 16) ∷ digit_glyph false (c % 16) ∷ [])

-- an ASCII character between double quotes
unfoldable pub escaped : ℕ → List ℕ
escaped c =
    if c == 0 then codes "\\0" else (if c == 9 then codes "\\t"
    else (if c == 10 then codes "\\n" else (if c == 13 then codes "\\r"
    else (if c == 34 then codes "\\\"" else (if c == 92 then codes "\\\\"
    else (if nat_lt c 32 || c == 127 then codes "\\u{" ++ (hex c ++ codes "}") else c ∷ []))))))

-- a name between double quotes, with escapes
abbrev pub quoted : Name → List ℕ
quoted name = codes "\"" ++ (flat_map escaped name ++ codes "\"")

-- quoted names with a comma and a blank before each
abbrev pub later_text : List Name → List ℕ
later_text names = flat_map (λ name. codes ", " ++ quoted name) names

-- quoted names in brackets, with a comma and a blank between them
abbrev pub list_text : List Name → List ℕ
list_text [] = codes "[]"
list_text (name ∷ names) = codes "[" ++ (quoted name ++ (later_text names ++ codes "]"))

-- whether all names are ASCII
abbrev pub all_ascii : List Name → Bool
all_ascii names = list_all (λ name. list_all is_ascii name) names

-- a text that is stated only where all of some names are ASCII
abbrev pub where_ascii : List Name → List ℕ → Option (List ℕ)
where_ascii names text = if all_ascii names then Some text else None

-- what is stated of a list of names
abbrev pub list_output : List Name → Option (List ℕ)
list_output names = where_ascii names (list_text names)
