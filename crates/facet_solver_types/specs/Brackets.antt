-- The brackets of a text, which must match.
use Rattle.std.specs.Prelude.{ℕ, if◌then◌else◌, List, [], ◌∷◌, Option, Some, None}
use Rattle.facet_solver_types.specs.declared.token.Bracket.{Bracket}
use Rattle.facet_solver_types.specs.declared.token.TokenKind.{TokenKind}
use Rattle.facet_solver_types.specs.declared.token.TokenKind.TheVariants.{Open, Close}
use Rattle.facet_solver_types.specs.declared.tokens.brackets.Opened.{Opened}
use Rattle.facet_solver_types.specs.SameBracket.{same_bracket}

-- the brackets outside, where one closes the innermost of those that are open
abbrev pub closed_by : Bracket → List Opened → Option (List Opened)
closed_by bracket [] = None
closed_by bracket (innermost ∷ outer) =
    if same_bracket innermost.bracket bracket then Some outer else None

-- the brackets that are open after a token, innermost first, unless it closes none of them
abbrev pub open_after : TokenKind → ℕ → List Opened → Option (List Opened)
open_after (Open bracket) offset outer =
    Some (record { bracket = bracket; offset = offset } ∷ outer)
open_after (Close bracket) offset outer = closed_by bracket outer
open_after kind offset outer = Some outer
