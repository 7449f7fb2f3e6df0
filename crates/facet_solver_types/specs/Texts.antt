-- Texts and characters.
use Rattle.std.specs.Prelude.{ℕ, ◌+◌, Bool, false, ◌&&◌, ◌||◌, ◌==◌, if◌then◌else◌, List, drop, slice_index, Option, Some, None, Result, Ok, Err}
use Rattle.std.specs.Str.{continuation_len}
use Rattle.facet_solver_types.specs.Ascii as ascii
use Rattle.facet_solver_types.specs.declared.problem.Problem.{Problem}
use Rattle.facet_solver_types.specs.declared.problem.Problem.TheVariants.{OpenText, OpenCharacter}
use Rattle.facet_solver_types.specs.declared.token.TokenKind.TheVariants.{Character, Text, RawText, OtherText}
use Rattle.facet_solver_types.specs.declared.tokens.spelling.Spelling.{Spelling}
use Rattle.facet_solver_types.specs.declared.tokens.texts.Opening.{Opening}
use Rattle.facet_solver_types.specs.Closings.{closing, hashes, raw_closing}
use Rattle.facet_solver_types.specs.Spellings.{whole}

-- what stands before the quote of a text: maybe `b` or `c`, and maybe `r` and some `#`
unfoldable pub opening_of : List ℕ → Opening
opening_of text =
    let marked = slice_index text 0 == ascii.letter_b || slice_index text 0 == ascii.letter_c in
    let raw_at = if marked then 1 else 0 in
    let raw = slice_index text raw_at == ascii.letter_r in
    let hash_at = if raw then raw_at + 1 else raw_at in
    let count = if raw then hashes (drop hash_at text) else 0 in
    record {
      kind = if marked then OtherText else (if raw then RawText else Text);
      raw = raw;
      hashes = count;
      quote = hash_at + count;
    }

-- whether a text stands first
abbrev pub begins_text : List ℕ → Bool
begins_text text = slice_index text (opening_of text).quote == ascii.quote

-- the text that its closing quote ends, if there is one
abbrev pub text_until : Opening → Option ℕ → Result Spelling Problem
text_until front None = Err OpenText
text_until front (Some at) =
    let start = front.quote + 1 in
    Ok (record { kind = front.kind; start = start; end = at; len = at + 1 + front.hashes })

-- the text that stands first
unfoldable pub text_token : List ℕ → Result Spelling Problem
text_token text =
    let front = opening_of text in
    let start = front.quote + 1 in
    text_until front
    (if front.raw then raw_closing front.hashes start (drop start text)
    else closing ascii.quote false start (drop start text))

-- how many bytes a character has that begins with a byte
abbrev pub character_len : ℕ → ℕ
character_len byte = 1 + continuation_len byte

-- whether a character's quote stands at an offset: before `\`, or one character and a quote
unfoldable pub begins_character : ℕ → List ℕ → Bool
begins_character at text =
    let first = slice_index text (at + 1) in
    let next = slice_index text (at + 1 + character_len first) in
    slice_index text at == ascii.apostrophe
    && (first == ascii.backslash || next == ascii.apostrophe)

-- the character that its closing quote ends, if there is one
abbrev pub character_until : Option ℕ → Result Spelling Problem
character_until None = Err OpenCharacter
character_until (Some at) = Ok (whole Character (at + 1))

-- the character that stands first, whose quote is at an offset
unfoldable pub character : ℕ → List ℕ → Result Spelling Problem
character at text =
    let first = slice_index text (at + 1) in
    if first == ascii.backslash
    then character_until (closing ascii.apostrophe false (at + 1) (drop (at + 1) text))
    else Ok (whole Character (at + 2 + character_len first))
