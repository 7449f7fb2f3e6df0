-- What the text tokens of Rust say.
use Rattle.std.specs.Prelude.{ℕ, Bool, false, List, [], ◌∷◌, ◌++◌, Option, Some, None, option_map, ◌==◌, ◌||◌, ◌&&◌, ◌+◌, ◌*◌, nat_lt, if◌then◌else◌, encode_utf8_all}
use Rattle.std.specs.Char.{digit_value}
use Rattle.std.specs.List.{list_any}
use Rattle.std.specs.Option.{option_and_then, option_to_list}
use Rattle.std.specs.Str.{chars}
use lib.Utf8.{scalar}
use denote.Bor.{Bor}
use Rattle.facet_solver_shape.specs.Names.{Name}

-- the letters of a text, by their codes
abbrev pub Letters : Type 0
Letters = List ℕ

-- whether a line feed comes first
abbrev pub begins_with_feed : Letters → Bool
begins_with_feed [] = false
begins_with_feed (c ∷ cs) = c == 10

-- no carriage return before a line feed
abbrev pub unix_lines : Letters → Letters
unix_lines [] = []
unix_lines (c ∷ cs) =
    (if (c == 13) && begins_with_feed cs then [] else c ∷ []) ++ unix_lines cs

-- what is still open at a place of a text
pub data Open : Type 0 where
  -- nothing
  nothing : Open
  -- behind `\`
  escape : Open
  -- behind `\x`
  byte : Open
  -- behind `\x` and a digit of that value
  digit : ℕ → Open
  -- behind `\u`
  unicode : Open
  -- behind `\u{` and so many digits, which have that value
  digits : ℕ → ℕ → Open
  -- behind `\` and a line feed, and blanks
  blanks : Open

-- what letters say, and what is open behind them
pub record Said : Type 0 where
  pub letters : Letters
  pub open_behind : Open

-- nothing yet
abbrev pub says_nothing : Open → Option Said
says_nothing open_behind = Some (record { letters = []; open_behind = open_behind })

-- one letter
abbrev pub says : ℕ → Option Said
says c = Some (record { letters = c ∷ []; open_behind = nothing })

-- the letter that a letter behind `\` stands for
abbrev pub short : ℕ → Option ℕ
short c =
    if c == 110 then Some 10
    else if c == 114 then Some 13
    else if c == 116 then Some 9
    else if c == 92 then Some 92
    else if c == 48 then Some 0
    else if c == 39 then Some 39
    else if c == 34 then Some 34
    else None

-- the value of a digit of base 16
abbrev pub hex : ℕ → Option ℕ
hex c = if nat_lt (digit_value c) 16 then Some (digit_value c) else None

-- whether it is a line feed, a blank, a tab or a carriage return
abbrev pub is_blank : ℕ → Bool
is_blank c = (c == 10) || (c == 32) || (c == 9) || (c == 13)

-- a letter where nothing is open: itself, but `\`, and neither `"` nor a carriage return
abbrev pub plain : ℕ → Option Said
plain c =
    if c == 92 then says_nothing escape
    else if (c == 34) || (c == 13) then None
    else says c

-- the letter of a code of at most 7 bits
abbrev pub ascii : ℕ → Option Said
ascii code = if nat_lt code 128 then says code else None

-- the letter of a code that digits say, of which there is one
abbrev pub of_digits : ℕ → ℕ → Option Said
of_digits count code = if nat_lt 0 count && scalar code then says code else None

-- a letter behind so many digits: `}`, `_` or a digit, of which there are at most 6
abbrev pub behind_digits : ℕ → ℕ → ℕ → Option Said
behind_digits count code c =
    if c == 125 then of_digits count code
    else if (c == 95) && nat_lt 0 count then says_nothing (digits count code)
    else if nat_lt count 6 then
    option_and_then (λ d. says_nothing (digits (count + 1) (16 * code + d))) (hex c)
    else None

-- what a letter says where that is open
abbrev pub behind : Open → ℕ → Option Said
behind nothing c = plain c
behind escape c =
    if c == 120 then says_nothing byte
    else if c == 117 then says_nothing unicode
    else if c == 10 then says_nothing blanks
    else option_and_then says (short c)
behind byte c = option_and_then (λ d. says_nothing (digit d)) (hex c)
behind (digit high) c = option_and_then (λ low. ascii (16 * high + low)) (hex c)
behind unicode c = if c == 123 then says_nothing (digits 0 0) else None
behind (digits count code) c = behind_digits count code c
behind blanks c = if is_blank c then says_nothing blanks else plain c

-- what the end says where that is open
abbrev pub at_end : Open → Option Letters
at_end nothing = Some []
at_end blanks = Some []
at_end _ = None

-- letters before those that others say
abbrev pub onto : Letters → Option Letters → Option Letters
onto said rest = option_map (λ cs. said ++ cs) rest

-- what letters say where that is open, if it is a text
abbrev pub said : Open → Letters → Option Letters
said still [] = at_end still
said still (c ∷ cs) =
    option_and_then (λ s. onto s.letters (said s.open_behind cs)) (behind still c)

-- what a text says between its quotes, if it is one
abbrev pub quoted_value : Name → Option Name
quoted_value text = option_map encode_utf8_all (said nothing (unix_lines (chars text)))

-- whether there is a carriage return among letters
abbrev pub has_return : Letters → Bool
has_return = list_any (λ c. c == 13)

-- letters, unless there is a carriage return among them
abbrev pub without_return : Letters → Option Letters
without_return cs = if has_return cs then None else Some cs

-- what a raw text says, if it is one
abbrev pub raw_value : Name → Option Name
raw_value text = option_map encode_utf8_all (without_return (unix_lines (chars text)))

-- what an escape that was read says, and what is behind it
abbrev pub said_by_escape : Option (Option ℕ × Bor Letters) → Option Letters
said_by_escape = option_and_then (λ e. onto (option_to_list e.0) (said nothing e.1.now))

-- what a letter that was read says, and what is behind it
abbrev pub said_by_letter : Option (ℕ × Bor Letters) → Option Letters
said_by_letter = option_and_then (λ e. onto (e.0 ∷ []) (said nothing e.1.now))
