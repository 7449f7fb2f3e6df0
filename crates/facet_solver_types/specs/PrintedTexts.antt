-- Texts between quotes and names, as declarations have them.
use Rattle.std.specs.Prelude.{ℕ, Bool, false, [], ◌∷◌, ◌++◌, codes, ◌==◌, ◌||◌, ◌&&◌, not, if◌then◌else◌, encode_utf8}
use Rattle.std.specs.Char.{is_ascii_alphabetic, is_ascii_alphanumeric}
use Rattle.std.specs.List.{flat_map, list_all}
use Rattle.std.specs.Str.{chars}
use Rattle.facet_solver_types.specs.Keywords.{is_keyword}
use Rattle.facet_solver_shape.specs.Names.{Name}
use Rattle.facet_solver_types.specs.Cases.{underscore}

-- a letter of a text between quotes, as itself or as an escape
abbrev pub escaped : ℕ → Name
escaped c =
    if c == 34 then 92 ∷ 34 ∷ []
    else if c == 92 then 92 ∷ 92 ∷ []
    else if c == 10 then codes "\\n"
    else if c == 13 then codes "\\r"
    else if c == 9 then codes "\\t"
    else if c == 0 then codes "\\0"
    else encode_utf8 c

-- what stands for a text between quotes
abbrev pub between_quotes : Name → Name
between_quotes text = flat_map escaped (chars text)

-- a text between quotes
abbrev pub quoted : Name → Name
quoted text = 34 ∷ between_quotes text ++ 34 ∷ []

-- whether a word may begin with a byte
abbrev pub begins_word : ℕ → Bool
begins_word b = is_ascii_alphabetic b || (b == underscore)

-- whether a word may go on with a byte
abbrev pub goes_on_in_word : ℕ → Bool
goes_on_in_word b = is_ascii_alphanumeric b || (b == underscore)

-- whether a word may go on with bytes
abbrev pub go_on_in_word : Name → Bool
go_on_in_word = list_all goes_on_in_word

-- whether bytes are ASCII letters, digits and `_`, and begin with no digit
abbrev pub is_word : Name → Bool
is_word [] = false
is_word (b ∷ bs) = begins_word b && go_on_in_word bs

-- whether a text is a name of ASCII letters, and no keyword
abbrev pub is_plain_name : Name → Bool
is_plain_name text = is_word text && not (is_keyword text)

-- a declared name, raw where it is a keyword
abbrev pub declared : Name → Name
declared name = if is_keyword name then codes "r#" ++ name else name
