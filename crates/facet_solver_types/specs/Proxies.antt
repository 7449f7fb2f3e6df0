-- The types as which something is read in place of its own.
use Rattle.std.specs.Prelude.{ℕ, ◌-◌, Bool, false, ◌==◌, if◌then◌else◌, List, [], ◌∷◌, ◌++◌, codes, length, map, Option, Some, None, option_to_list, slice_get, Result, Ok, Err}
use Rattle.std.specs.List.{list_any}
use Rattle.facet_solver_types.specs.declared.attribute.meaning.Meaning.{Meaning}
use Rattle.facet_solver_types.specs.declared.attribute.meaning.Meaning.TheVariants.{With}
use Rattle.facet_solver_types.specs.declared.attribute.refusal.Refusal.TheVariants.{Takes}
use Rattle.facet_solver_types.specs.declared.attribute.value.Form.TheVariants as form
use Rattle.facet_solver_types.specs.declared.fault.Fault.{Fault}
use Rattle.facet_solver_types.specs.declared.fault.Fault.TheVariants.{At}
use Rattle.facet_solver_types.specs.declared.token.TokenKind.{TokenKind}
use Rattle.facet_solver_types.specs.declared.token.TokenKind.TheVariants.{Name as NameKind, PathMark, Text}
use Rattle.facet_solver_types.specs.Attributes.{Attribute}
use Rattle.facet_solver_types.specs.Gathered.{gathered}
use Rattle.facet_solver_types.specs.Modules.{stand_ins}
use Rattle.facet_solver_types.specs.Passages.{Passage}
use Rattle.facet_solver_types.specs.Pieces.{and_then}
use Rattle.facet_solver_types.specs.SaidOn.{refused}
use Rattle.facet_solver_types.specs.Tokens.{Read, Token, tokens}
use Rattle.facet_solver_types.specs.Understood.{Proxy}
use Rattle.facet_solver_types.specs.Values.{Value, of_type, only_text, text}

-- a token that stands elsewhere
abbrev pub placed : ℕ → Token → Token
placed place token = record { offset = place; kind = token.kind; text = token.text }

-- a fault elsewhere
abbrev pub placed_fault : ℕ → Fault → Fault
placed_fault place (At offset problem) = At place problem
placed_fault place fault = fault

-- what was read, elsewhere
abbrev pub placed_read : ℕ → Read → Read
placed_read place (Ok tokens) = Ok (map (placed place) tokens)
placed_read place (Err fault) = Err (placed_fault place fault)

-- the tokens of a text, or its fault, which all stand where the text stands
abbrev pub placed_tokens : ℕ → List ℕ → Read
placed_tokens place written = placed_read place (tokens written)

-- whether there is a `\` among bytes
abbrev pub has_backslash : List ℕ → Bool
has_backslash = list_any (λ byte. byte == 92)

-- whether a text of this kind has an escape
abbrev pub has_escape_by : TokenKind → List ℕ → Bool
has_escape_by Text written = has_backslash written
has_escape_by kind written = false

-- whether a text token has an escape
abbrev pub has_escape : Token → Bool
has_escape token = has_escape_by token.kind token.text

-- tokens that end where they all stand
abbrev pub ending : ℕ → List Token → Passage
ending place tokens = record { tokens = tokens; end = place }

-- the type in a text, which an attribute at an offset says
abbrev pub quoted_type : ℕ → Token → Result Passage Fault
quoted_type offset token =
    if has_escape token then Err (refused offset (Takes form.Type))
    else and_then (placed_tokens token.offset token.text)
    (λ tokens. Ok (ending token.offset tokens))

-- the type that is written out or in a text
abbrev pub type_by : ℕ → Passage → Option Token → Result Passage Fault
type_by offset passage None = Ok passage
type_by offset passage (Some token) = quoted_type offset token

-- the type that an attribute at an offset says by a passage
abbrev pub said_type : ℕ → Passage → Result Passage Fault
said_type offset passage = type_by offset passage (only_text passage.tokens)

-- a proxy at an offset, by the type that it says
abbrev pub proxy_at : ℕ → Passage → Result (Option Proxy) Fault
proxy_at offset passage =
    and_then (said_type offset passage)
    (λ said. Ok (Some (record { offset = offset; said = said })))

-- the path into the module of the stand-ins, which all stands at a place
abbrev pub to_stand_ins : ℕ → List Token
to_stand_ins place =
    record { offset = place; kind = NameKind; text = stand_ins }
    ∷ record { offset = place; kind = PathMark; text = codes "::" } ∷ []

-- the last of some tokens, if there is one
abbrev pub last_of : List Token → List Token
last_of tokens = option_to_list (slice_get tokens (length tokens - 1))

-- the type that stands in for code, which a text names at an offset: by the last name of its path
abbrev pub stand_in : ℕ → Token → Result Passage Fault
stand_in offset token =
    and_then (placed_tokens offset token.text)
    (λ tokens. Ok (ending offset (to_stand_ins offset ++ last_of tokens)))

-- the proxy at an offset that is the stand-in for code
abbrev pub stand_in_at : ℕ → Token → Result (Option Proxy) Fault
stand_in_at offset token =
    and_then (stand_in offset token)
    (λ said. Ok (Some (record { offset = offset; said = said })))

-- the proxy that an attribute of a meaning at an offset is by its value
abbrev pub proxy_by : Meaning → ℕ → Value → Result (Option Proxy) Fault
proxy_by meaning offset (of_type passage) = proxy_at offset passage
proxy_by With offset (text token) = stand_in_at offset token
proxy_by meaning offset value = Ok None

-- the proxy that an attribute is, if it says a type or is read by code
abbrev pub proxy : Attribute → Result (Option Proxy) Fault
proxy attribute = proxy_by attribute.meaning attribute.offset attribute.value

-- the proxies among attributes
abbrev pub proxies : List Attribute → Result (List Proxy) Fault
proxies found = gathered (λ number. proxy) 0 found
