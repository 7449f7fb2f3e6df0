-- What stands first in a text.
use Rattle.std.specs.Prelude.{ℕ, ◌≤◌, ◌<◌, false, ◌&&◌, ◌==◌, if◌then◌else◌, List, length, drop, slice_index, Result, Ok, Err}
use Rattle.std.specs.Char.{is_ascii_digit}
use Rattle.std.specs.Option.{ok_or}
use Rattle.std.specs.Str.{IsCharBoundary}
use Rattle.facet_solver_types.specs.Ascii as ascii
use Rattle.facet_solver_types.specs.declared.problem.Problem.{Problem}
use Rattle.facet_solver_types.specs.declared.problem.Problem.TheVariants.{OpenComment}
use Rattle.facet_solver_types.specs.declared.tokens.part.Part.{Part}
use Rattle.facet_solver_types.specs.declared.tokens.part.Part.TheVariants.{Gap, Spelled}
use Rattle.facet_solver_types.specs.declared.tokens.spelling.Spelling.{Spelling}
use Rattle.facet_solver_types.specs.Characters.{begins_name, blank_len}
use Rattle.facet_solver_types.specs.Closings.{comment_end, line_end}
use Rattle.facet_solver_types.specs.MarkTokens.{mark}
use Rattle.facet_solver_types.specs.Spellings.{IsCut, IsIn}
use Rattle.facet_solver_types.specs.Texts.{begins_character, begins_text, character, text_token}
use Rattle.facet_solver_types.specs.Words.{begins_lifetime, begins_raw_name, lifetime, number, raw_name, word}

-- how many bytes a comment or a blank takes that stands first, or 0 where none does
unfoldable pub gap_len : List ℕ → Result ℕ Problem
gap_len text =
    let first = slice_index text 0 in
    let second = slice_index text 1 in
    if first == ascii.slash && second == ascii.slash then Ok (line_end 2 (drop 2 text))
    else (if first == ascii.slash && second == ascii.star
    then ok_or (comment_end 0 false 2 (drop 2 text)) OpenComment
    else Ok (blank_len text))

-- the token that stands first
unfoldable pub first_token : List ℕ → Result Spelling Problem
first_token text =
    let first = slice_index text 0 in
    if begins_text text then text_token text
    else (if begins_character 0 text then character 0 text
    else (if first == ascii.letter_b && begins_character 1 text then character 1 text
    else (if begins_lifetime text then Ok (lifetime text)
    else (if begins_raw_name text then Ok (raw_name text)
    else (if begins_name text then Ok (word text)
    else (if is_ascii_digit first then Ok (number text)
    else mark text))))))

-- a token, as a part of a text
abbrev pub spelled : Result Spelling Problem → Result Part Problem
spelled (Ok token) = Ok (Spelled token)
spelled (Err problem) = Err problem

-- the token that stands first, unless a gap of so many bytes does
abbrev pub part_after : List ℕ → Result ℕ Problem → Result Part Problem
part_after text (Err problem) = Err problem
part_after text (Ok len) = if len == 0 then spelled (first_token text) else Ok (Gap len)

-- what stands first in a text that is not at its end: a comment, a blank or a token
unfoldable pub first_part : List ℕ → Result Part Problem
first_part text = part_after text (gap_len text)

-- a part has some bytes, all of a text
abbrev pub IsPartOf : List ℕ → Part → Type 0
IsPartOf text (Gap len) = (0 < len) × (len ≤ length text)
IsPartOf text (Spelled token) = IsIn text token

-- a text may be cut round a part
abbrev pub MayCut : List ℕ → Part → Type 0
MayCut text (Gap len) = IsCharBoundary text len
MayCut text (Spelled token) = IsCut text token
