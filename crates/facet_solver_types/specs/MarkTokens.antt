-- Marks and brackets.
use Rattle.std.specs.Prelude.{ℕ, not, ◌&&◌, ◌||◌, ◌==◌, if◌then◌else◌, List, slice_index, Option, Some, None, Result, Ok, Err}
use Rattle.std.specs.Char.{is_ascii_punctuation}
use Rattle.facet_solver_types.specs.Ascii as ascii
use Rattle.facet_solver_types.specs.declared.problem.Problem.{Problem}
use Rattle.facet_solver_types.specs.declared.problem.Problem.TheVariants.{NoToken}
use Rattle.facet_solver_types.specs.declared.token.Bracket.TheVariants.{Round, Square, Curly}
use Rattle.facet_solver_types.specs.declared.token.TokenKind.{TokenKind}
use Rattle.facet_solver_types.specs.declared.token.TokenKind.TheVariants.{PathMark, Arrow, FatArrow, Mark, Open, Close}
use Rattle.facet_solver_types.specs.declared.tokens.spelling.Spelling.{Spelling}
use Rattle.facet_solver_types.specs.Spellings.{whole}

-- the bracket or mark that one character is: ASCII's marks, but '`' and '\'
abbrev pub single : ℕ → Option TokenKind
single byte =
    if byte == ascii.open_round then Some (Open Round)
    else (if byte == ascii.close_round then Some (Close Round)
    else (if byte == ascii.open_square then Some (Open Square)
    else (if byte == ascii.close_square then Some (Close Square)
    else (if byte == ascii.open_curly then Some (Open Curly)
    else (if byte == ascii.close_curly then Some (Close Curly)
    else (if is_ascii_punctuation byte && not (byte == ascii.backslash || byte == ascii.grave)
    then Some (Mark byte)
    else None))))))

-- a token of one character, if it is one
abbrev pub if_token : ℕ → Option TokenKind → Result Spelling Problem
if_token byte None = Err (NoToken byte)
if_token byte (Some kind) = Ok (whole kind 1)

-- the mark or bracket that stands first: `::`, `->`, `=>` or one character
unfoldable pub mark : List ℕ → Result Spelling Problem
mark text =
    let first = slice_index text 0 in
    let second = slice_index text 1 in
    if first == ascii.colon && second == ascii.colon then Ok (whole PathMark 2)
    else (if first == ascii.minus && second == ascii.greater then Ok (whole Arrow 2)
    else (if first == ascii.equals && second == ascii.greater then Ok (whole FatArrow 2)
    else if_token first (single first)))
