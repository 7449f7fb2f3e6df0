-- The tokens of a text.
use Rattle.std.specs.Prelude.{ℕ, zero, suc, ◌+◌, ◌-◌, List, [], ◌∷◌, ◌++◌, map, reverse, slice_range, Option, Some, None, Result, Ok, Err}
use Rattle.facet_solver_types.specs.declared.fault.Fault.{Fault}
use Rattle.facet_solver_types.specs.declared.fault.Fault.TheVariants.{At}
use Rattle.facet_solver_types.specs.declared.problem.Problem.{Problem}
use Rattle.facet_solver_types.specs.declared.problem.Problem.TheVariants.{ClosesNothing, OpenBracket}
use Rattle.facet_solver_types.specs.declared.token.Token as declared
use Rattle.facet_solver_types.specs.declared.token.TokenKind.{TokenKind}
use Rattle.facet_solver_types.specs.declared.tokens.brackets.Opened.{Opened}
use Rattle.facet_solver_types.specs.declared.tokens.part.Part.{Part}
use Rattle.facet_solver_types.specs.declared.tokens.part.Part.TheVariants.{Gap, Spelled}
use Rattle.facet_solver_types.specs.declared.tokens.spelling.Spelling.{Spelling}
use Rattle.facet_solver_types.specs.Brackets.{open_after}
use Rattle.facet_solver_types.specs.FirstParts.{first_part}

-- a token: where it begins in the text, what it is, and its own text
pub record Token : Type 0 where
  pub offset : ℕ
  pub kind : TokenKind
  pub text : List ℕ

-- what is seen of a token
abbrev pub token_view : declared.Token → Token
token_view token =
    record { offset = token.offset; kind = token.kind; text = token.text.now }

-- what is seen of tokens
abbrev pub tokens_view : List declared.Token → List Token
tokens_view tokens = map token_view tokens

-- tokens, or the first fault of their text
abbrev pub Read : Type 0
Read = Result (List Token) Fault

-- one token more, first
abbrev pub with_token : Token → Read → Read
with_token token (Ok tokens) = Ok (token ∷ tokens)
with_token token (Err fault) = Err fault

-- the end of a text, where no bracket may be open; these are, the first in the text first
abbrev pub at_end : List Opened → Read
at_end [] = Ok []
at_end (first ∷ others) = Err (At first.offset OpenBracket)

-- a token, and those after it where its bracket, if it is one, matches
abbrev pub then_tokens : Token → Option (List Opened) → (List Opened → Read) → Read
then_tokens token None later = Err (At token.offset ClosesNothing)
then_tokens token (Some outer) later = with_token token (later outer)

-- the token at an offset that stands first in what follows
abbrev pub token_at : ℕ → List ℕ → Spelling → Token
token_at offset text spelling =
    let own = slice_range text spelling.start spelling.end in
    record { offset = offset; kind = spelling.kind; text = own }

-- the tokens after some brackets and a length
abbrev pub Later : Type 0
Later = List Opened → ℕ → Read

-- the token that a part of a text is, if it is one, and the tokens after it
abbrev pub after_part : List Opened → ℕ → List ℕ → Result Part Problem → Later → Read
after_part outer offset text (Err problem) later = Err (At offset problem)
after_part outer offset text (Ok (Gap len)) later = later outer len
after_part outer offset text (Ok (Spelled spelling)) later =
    then_tokens (token_at offset text spelling) (open_after spelling.kind offset outer)
    (λ outer. later outer spelling.len)

-- the tokens of bytes at an offset in open brackets, after the first that were `passed`
unfoldable pub tokens_from : List Opened → ℕ → ℕ → List ℕ → Read
tokens_from outer offset passed [] = at_end (reverse outer)
tokens_from outer offset (suc passed) (byte ∷ bytes) = tokens_from outer (offset + 1) passed bytes
tokens_from outer offset zero (byte ∷ bytes) =
    after_part outer offset (byte ∷ bytes) (first_part (byte ∷ bytes))
    (λ outer len. tokens_from outer (offset + 1) (len - 1) bytes)

-- tokens that were read, and then others
abbrev pub before : List Token → Read → Read
before tokens (Ok later) = Ok (tokens ++ later)
before tokens (Err fault) = Err fault

-- what a text gives that goes on so, where these tokens were read and these brackets opened
abbrev pub outcome : List declared.Token → List Opened → ℕ → List ℕ → Read
outcome found opened offset rest =
    before (tokens_view found) (tokens_from (reverse opened) offset 0 rest)

-- the tokens of a text, whose brackets match
abbrev pub tokens : List ℕ → Read
tokens text = tokens_from [] 0 0 text
