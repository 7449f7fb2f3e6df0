-- Runs of tokens: up to a mark outside brackets.
use Rattle.std.specs.Prelude.{ℕ, suc, ◌+◌, ◌-◌, min, Bool, true, false, ◌&&◌, ◌||◌, ◌==◌, nat_lt, if◌then◌else◌, List, [], ◌∷◌, length, drop}
use Rattle.facet_solver_types.specs.Ascii as ascii
use Rattle.facet_solver_types.specs.declared.grammar.run.Nest.{Nest}
use Rattle.facet_solver_types.specs.declared.grammar.run.Run.{Run}
use Rattle.facet_solver_types.specs.declared.grammar.run.Run.TheVariants.{FieldType, Head, Where, Angles, Value, Statement, Group}
use Rattle.facet_solver_types.specs.declared.token.Bracket.TheVariants.{Curly}
use Rattle.facet_solver_types.specs.declared.token.TokenKind.{TokenKind}
use Rattle.facet_solver_types.specs.declared.token.TokenKind.TheVariants.{PathMark, Mark, Open, Close}
use Rattle.facet_solver_types.specs.Tokens.{Token}

-- whether a token is this mark
abbrev pub is_mark : ℕ → TokenKind → Bool
is_mark byte (Mark other) = byte == other
is_mark byte kind = false

-- whether a token closes a bracket
abbrev pub is_close : TokenKind → Bool
is_close (Close bracket) = true
is_close kind = false

-- whether a token opens braces
abbrev pub opens_braces : TokenKind → Bool
opens_braces (Open Curly) = true
opens_braces kind = false

-- what ends a run: a comma ends a type and a value, `;` a head, a `where` and a statement, braces a
-- head and a `where`, `=` a `where`, and `>` what stands in `<` and `>`
abbrev pub stops : Run → TokenKind → Bool
stops FieldType kind = is_mark ascii.comma kind
stops Value kind = is_mark ascii.comma kind
stops Statement kind = is_mark ascii.semicolon kind
stops Head kind = is_mark ascii.semicolon kind || opens_braces kind
stops Where kind =
    is_mark ascii.equals kind || is_mark ascii.semicolon kind || opens_braces kind
stops Angles kind = is_mark ascii.greater kind
stops Group kind = false

-- whether each `<` of a run is a bracket
abbrev pub has_angles : Run → Bool
has_angles FieldType = true
has_angles Head = true
has_angles Where = true
has_angles Angles = true
has_angles run = false

-- outside all brackets
abbrev pub outside : Nest
outside = record { brackets = 0; angles = 0; path = false }

-- whether a run ends at a token: what stops it, outside brackets, or a bracket's end
abbrev pub ends : Run → Nest → TokenKind → Bool
ends run nest kind =
    nest.brackets == 0 && (is_close kind || (nest.angles == 0 && stops run kind))

-- how many `<` are open after a token: it is one in a type, a head, after `::` and in another
abbrev pub angles_after : Run → Nest → TokenKind → ℕ
angles_after run nest (Mark byte) =
    if byte == ascii.less && (has_angles run || nest.path || nat_lt 0 nest.angles)
    then nest.angles + 1
    else (if byte == ascii.greater then nest.angles - 1 else nest.angles)
angles_after run nest kind = nest.angles

-- in which brackets the tokens after a token stand
unfoldable pub nest_after : Run → Nest → TokenKind → Nest
nest_after run nest (Open bracket) = record nest { brackets = nest.brackets + 1; path = false }
nest_after run nest (Close bracket) = record nest { brackets = nest.brackets - 1; path = false }
nest_after run nest PathMark = record nest { path = true }
nest_after run nest kind =
    if nest.brackets == 0 then record nest { angles = angles_after run nest kind; path = false }
    else record nest { path = false }

-- how many tokens a run has, of which the first stands in these brackets
unfoldable pub run_from : Run → Nest → List Token → ℕ
run_from run nest [] = 0
run_from run nest (token ∷ tokens) =
    if ends run nest token.kind then 0
    else suc (run_from run (nest_after run nest token.kind) tokens)

-- how many tokens a run has
abbrev pub run_len : Run → List Token → ℕ
run_len run tokens = run_from run outside tokens

-- how many tokens a group has whose bracket stands first, with both brackets
abbrev pub group_len : List Token → ℕ
group_len tokens = min (run_len Group (drop 1 tokens) + 2) (length tokens)
