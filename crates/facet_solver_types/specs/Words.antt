-- Names, keywords, lifetimes and numbers.
use Rattle.std.specs.Prelude.{ℕ, ◌+◌, Bool, ◌&&◌, ◌==◌, if◌then◌else◌, List, drop, take, slice_index}
use Rattle.facet_solver_types.specs.Ascii as ascii
use Rattle.facet_solver_types.specs.declared.token.TokenKind.TheVariants.{Name, RawName, Keyword, Lifetime, Number}
use Rattle.facet_solver_types.specs.declared.tokens.spelling.Spelling.{Spelling}
use Rattle.facet_solver_types.specs.Characters.{begins_name, word_len}
use Rattle.facet_solver_types.specs.Keywords.{is_keyword}
use Rattle.facet_solver_types.specs.Spellings.{whole}

-- the name or the keyword that stands first
abbrev pub word : List ℕ → Spelling
word text =
    let len = word_len text in whole (if is_keyword (take len text) then Keyword else Name) len

-- whether a name after `r#` stands first
abbrev pub begins_raw_name : List ℕ → Bool
begins_raw_name text =
    slice_index text 0 == ascii.letter_r && slice_index text 1 == ascii.hash
    && begins_name (drop 2 text)

-- the name after `r#`
abbrev pub raw_name : List ℕ → Spelling
raw_name text =
    let len = 2 + word_len (drop 2 text) in
    record { kind = RawName; start = 2; end = len; len = len }

-- whether a lifetime stands first
abbrev pub begins_lifetime : List ℕ → Bool
begins_lifetime text = slice_index text 0 == ascii.apostrophe && begins_name (drop 1 text)

-- a `'` and a name
abbrev pub lifetime : List ℕ → Spelling
lifetime text = whole Lifetime (1 + word_len (drop 1 text))

-- a digit, and the letters, digits and `_` after it
abbrev pub number : List ℕ → Spelling
number text = whole Number (word_len text)
