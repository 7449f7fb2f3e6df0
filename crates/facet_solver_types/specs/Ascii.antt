-- Characters of ASCII by name.
use Rattle.std.specs.Prelude.{ℕ}

-- a tab
abbrev pub tab : ℕ
tab = 9

-- what ends a line
abbrev pub line_feed : ℕ
line_feed = 10

-- a carriage return
abbrev pub carriage_return : ℕ
carriage_return = 13

-- a blank
abbrev pub blank : ℕ
blank = 32

-- `!`
abbrev pub exclamation : ℕ
exclamation = 33

-- `"`
abbrev pub quote : ℕ
quote = 34

-- `#`
abbrev pub hash : ℕ
hash = 35

-- `'`
abbrev pub apostrophe : ℕ
apostrophe = 39

-- `(`
abbrev pub open_round : ℕ
open_round = 40

-- `)`
abbrev pub close_round : ℕ
close_round = 41

-- `*`
abbrev pub star : ℕ
star = 42

-- `+`
abbrev pub plus : ℕ
plus = 43

-- `,`
abbrev pub comma : ℕ
comma = 44

-- `-`
abbrev pub minus : ℕ
minus = 45

-- `/`
abbrev pub slash : ℕ
slash = 47

-- `:`
abbrev pub colon : ℕ
colon = 58

-- `;`
abbrev pub semicolon : ℕ
semicolon = 59

-- `<`
abbrev pub less : ℕ
less = 60

-- `=`
abbrev pub equals : ℕ
equals = 61

-- `>`
abbrev pub greater : ℕ
greater = 62

-- `[`
abbrev pub open_square : ℕ
open_square = 91

-- `\`
abbrev pub backslash : ℕ
backslash = 92

-- `]`
abbrev pub close_square : ℕ
close_square = 93

-- `_`
abbrev pub underscore : ℕ
underscore = 95

-- the mark that no token begins with, beside `\`
abbrev pub grave : ℕ
grave = 96

-- `b`
abbrev pub letter_b : ℕ
letter_b = 98

-- `c`
abbrev pub letter_c : ℕ
letter_c = 99

-- `r`
abbrev pub letter_r : ℕ
letter_r = 114

-- `{`
abbrev pub open_curly : ℕ
open_curly = 123

-- `}`
abbrev pub close_curly : ℕ
close_curly = 125
