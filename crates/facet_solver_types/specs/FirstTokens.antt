-- What the first of some tokens is.
use Rattle.std.specs.Prelude.{ℕ, Bool, true, false, ◌||◌, List, [], ◌∷◌}
use Rattle.std.specs.Str.{bytes_eq}
use Rattle.facet_solver_types.specs.declared.token.Bracket.{Bracket}
use Rattle.facet_solver_types.specs.declared.token.Bracket.TheVariants.{Round, Square, Curly}
use Rattle.facet_solver_types.specs.declared.token.TokenKind.{TokenKind}
use Rattle.facet_solver_types.specs.declared.token.TokenKind.TheVariants.{Name, RawName, Keyword, Lifetime, PathMark, Open}
use Rattle.facet_solver_types.specs.Runs.{is_close, is_mark}
use Rattle.facet_solver_types.specs.SameBracket.{same_bracket}
use Rattle.facet_solver_types.specs.Tokens.{Token}

-- whether a token opens a bracket
abbrev pub is_open : Bracket → TokenKind → Bool
is_open bracket (Open other) = same_bracket bracket other
is_open bracket kind = false

-- whether the first token is this mark
abbrev pub sees_mark : ℕ → List Token → Bool
sees_mark byte [] = false
sees_mark byte (token ∷ tokens) = is_mark byte token.kind

-- whether the first token opens this bracket
abbrev pub sees_open : Bracket → List Token → Bool
sees_open bracket [] = false
sees_open bracket (token ∷ tokens) = is_open bracket token.kind

-- whether the first token opens a bracket
abbrev pub sees_bracket : List Token → Bool
sees_bracket tokens = sees_open Curly tokens || sees_open Round tokens || sees_open Square tokens

-- whether the first token closes a bracket
abbrev pub sees_close : List Token → Bool
sees_close [] = false
sees_close (token ∷ tokens) = is_close token.kind

-- whether a token of this kind and text is a keyword
abbrev pub is_word : List ℕ → TokenKind → List ℕ → Bool
is_word word Keyword text = bytes_eq text word
is_word word kind text = false

-- whether the first token is this keyword
abbrev pub sees_word : List ℕ → List Token → Bool
sees_word word [] = false
sees_word word (token ∷ tokens) = is_word word token.kind token.text

-- whether a token is a name
abbrev pub is_name : TokenKind → Bool
is_name Name = true
is_name RawName = true
is_name kind = false

-- whether the first token is a name
abbrev pub sees_name : List Token → Bool
sees_name [] = false
sees_name (token ∷ tokens) = is_name token.kind

-- whether the first token is a lifetime
abbrev pub is_lifetime : TokenKind → Bool
is_lifetime Lifetime = true
is_lifetime kind = false

-- whether a token is `::`
abbrev pub is_path : TokenKind → Bool
is_path PathMark = true
is_path kind = false

-- whether the first token is `::`
abbrev pub sees_path : List Token → Bool
sees_path [] = false
sees_path (token ∷ tokens) = is_path token.kind
