-- How a token is written.
use Rattle.std.specs.Prelude.{ℕ, ◌≤◌, ◌<◌, List, length}
use Rattle.std.specs.Str.{IsCharBoundary}
use Rattle.facet_solver_types.specs.declared.token.TokenKind.{TokenKind}
use Rattle.facet_solver_types.specs.declared.tokens.spelling.Spelling.{Spelling}

-- a token that is its own text
abbrev pub whole : TokenKind → ℕ → Spelling
whole kind len = record { kind = kind; start = 0; end = len; len = len }

-- a token has some bytes, all of a text, and its own text stands in it
pub record IsIn (text : List ℕ) (token : Spelling) : Type 0 where
  pub some : 0 < token.len
  pub begins : token.start ≤ token.end
  pub ends : token.end ≤ token.len
  pub within : token.len ≤ length text

-- a text may be cut round a token, and round the token's own text
pub record IsCut (text : List ℕ) (token : Spelling) : Type 0 where
  pub start : IsCharBoundary text token.start
  pub end : IsCharBoundary text token.end
  pub len : IsCharBoundary text token.len
