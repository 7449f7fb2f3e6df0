-- Types as they are written: what a type is outside, and the types in it.
use Rattle.std.specs.Prelude.{ℕ, Bool, false, ◌||◌, ◌&&◌, ◌+◌, ◌-◌, ◌==◌, suc, if◌then◌else◌, List, [], ◌∷◌, codes, drop, length, map, Result, Ok, Err}
use Rattle.std.specs.Str.{bytes_eq}
use Rattle.facet_solver_types.specs.Ascii as ascii
use Rattle.facet_solver_types.specs.declared.fault.Fault.{Fault}
use Rattle.facet_solver_types.specs.declared.fault.Fault.TheVariants.{At}
use Rattle.facet_solver_types.specs.declared.grammar.written.NamedType as code_named
use Rattle.facet_solver_types.specs.declared.grammar.written.Written as code
use Rattle.facet_solver_types.specs.declared.grammar.run.Run.TheVariants.{FieldType, Statement}
use Rattle.facet_solver_types.specs.declared.passage.Passage as code_passage
use Rattle.facet_solver_types.specs.declared.problem.Expected.TheVariants as expected
use Rattle.facet_solver_types.specs.declared.problem.Problem.TheVariants.{Expected}
use Rattle.facet_solver_types.specs.declared.token.Bracket.TheVariants.{Round, Square}
use Rattle.facet_solver_types.specs.Entries.{is_entry_word, is_over}
use Rattle.facet_solver_types.specs.FirstTokens.{is_lifetime, is_name, is_open, is_path, sees_mark, sees_open, sees_path, sees_word}
use Rattle.facet_solver_types.specs.Inside.{inside}
use Rattle.facet_solver_types.specs.Origins.{Origin, origin_of, origin_view}
use Rattle.facet_solver_types.specs.Passages.{Passage, after, passage_view, unexpected, up_to}
use Rattle.facet_solver_types.specs.Pieces.{and_then, pieces}
use Rattle.facet_solver_types.specs.Runs.{group_len, run_len}
use Rattle.facet_solver_types.specs.Tokens.{Token, token_view, tokens_view}

-- a type by a name: the last part of its path, where the path before it leads, and the types in it
pub record NamedType : Type 0 where
  pub name : Token
  pub origin : Origin
  pub types : List Passage

-- a type: `()`, `(T)` or `&T`, a tuple, `[T]`, `[T; length]`, `&str`, `&[u8]`, `Self`, or one by a
-- name
pub data Written : Type 0 where
  unit : Written
  enclosed : Passage → Written
  tuple : List Passage → Written
  slice : Passage → Written
  array : Passage → List Token → Written
  text : Written
  bytes : Written
  this : Written
  named : NamedType → Written

-- what is seen of passages
abbrev pub passages_view : List code_passage.Passage → List Passage
passages_view passages = map passage_view passages

-- what is seen of a type by a name
abbrev pub named_view : code_named.NamedType → NamedType
named_view n = record {
  name = token_view n.name;
  origin = origin_view n.origin;
  types = passages_view n.types.items;
}

-- what is seen of a type
abbrev pub written_view : code.Written → Written
written_view code.TheVariants.Unit = unit
written_view (code.TheVariants.Enclosed held) = enclosed (passage_view held)
written_view (code.TheVariants.Tuple parts) = tuple (passages_view parts.items)
written_view (code.TheVariants.Slice item) = slice (passage_view item)
written_view (code.TheVariants.Array item len) = array (passage_view item) (tokens_view len.now)
written_view code.TheVariants.Text = text
written_view code.TheVariants.Bytes = bytes
written_view code.TheVariants.This = this
written_view (code.TheVariants.Named n) = named (named_view n)

-- what stands in the brackets that a passage is, where nothing stands after them
abbrev pub held_by : Passage → Result Passage Fault
held_by passage =
    let len = group_len passage.tokens in
    if is_over (drop len passage.tokens) then Ok (inside passage)
    else Err (unexpected expected.FieldType (after len passage))

-- what stands in round brackets: nothing, one type, or several, or one with a comma
abbrev pub in_round : Passage → Written
in_round held =
    if is_over held.tokens then unit
    else (if run_len FieldType held.tokens == length held.tokens then enclosed held
    else tuple (pieces FieldType held))

-- what stands in square brackets: a type, maybe with a length after `;`
abbrev pub in_square : Passage → Written
in_square held =
    let len = run_len Statement held.tokens in
    if len == length held.tokens then slice held
    else array (up_to len held) (drop (len + 1) held.tokens)

-- whether a token alone is the name `str`
abbrev pub is_str : List Token → Bool
is_str [] = false
is_str (token ∷ tokens) =
    is_name token.kind && bytes_eq token.text (codes "str") && is_over tokens

-- whether the first token is a lifetime
abbrev pub sees_lifetime : List Token → Bool
sees_lifetime [] = false
sees_lifetime (token ∷ tokens) = is_lifetime token.kind

-- how many tokens a lifetime has that may stand first
abbrev pub lifetime_len : List Token → ℕ
lifetime_len tokens = if sees_lifetime tokens then 1 else 0

-- whether tokens are `[u8]`
abbrev pub is_bytes : List Token → Bool
is_bytes (first ∷ item ∷ last ∷ []) =
    is_open Square first.kind && is_name item.kind && bytes_eq item.text (codes "u8")
is_bytes tokens = false

-- what stands behind a `&`: `str` and `[u8]` are texts then, another type is itself
abbrev pub referred : Passage → Written
referred held =
    if is_str held.tokens then text
    else (if is_bytes held.tokens then bytes else enclosed held)

-- a type after `&`, maybe with a lifetime
abbrev pub reference : Passage → Written
reference passage = referred (after (lifetime_len (drop 1 passage.tokens)) (after 1 passage))

-- `Self`, alone
abbrev pub this_type : Passage → Result Written Fault
this_type passage =
    if is_over (drop 1 passage.tokens) then Ok this
    else Err (unexpected expected.FieldType (after 1 passage))

-- whether the first token is `::`, or a word before one
abbrev pub goes_on : List Token → Bool
goes_on [] = false
goes_on (token ∷ tokens) = is_path token.kind || (is_entry_word token.kind && sees_path tokens)

-- how many tokens of a path stand before its last part: each `::` and the words before them
unfoldable pub front_len : List Token → ℕ
front_len [] = 0
front_len (token ∷ tokens) = if goes_on (token ∷ tokens) then suc (front_len tokens) else 0

-- whether tokens stand in `<` and `>`
abbrev pub has_angles : List Token → Bool
has_angles tokens =
    sees_mark ascii.less tokens && sees_mark ascii.greater (drop (length tokens - 1) tokens)

-- what stands in `<` and `>`
abbrev pub in_angles : Passage → Passage
in_angles passage = up_to (length passage.tokens - 2) (after 1 passage)

-- whether a passage is a lifetime
abbrev pub is_lifetime_alone : Passage → Bool
is_lifetime_alone passage = sees_lifetime passage.tokens && length passage.tokens == 1

-- passages without the lifetimes that stand first
abbrev pub without_lifetimes : List Passage → List Passage
without_lifetimes [] = []
without_lifetimes (passage ∷ others) =
    if is_lifetime_alone passage then without_lifetimes others else passage ∷ others

-- the types that a name takes: those in `<` and `>`, if anything stands after it
abbrev pub types_after : Passage → Result (List Passage) Fault
types_after passage =
    if is_over passage.tokens then Ok []
    else (if has_angles passage.tokens
    then Ok (without_lifetimes (pieces FieldType (in_angles passage)))
    else Err (unexpected expected.FieldType passage))

-- the name of a type that stands first in some tokens, and where these end
abbrev pub type_name_of : List Token → ℕ → Result Token Fault
type_name_of [] end = Err (At end (Expected expected.FieldType))
type_name_of (token ∷ tokens) end =
    if is_name token.kind then Ok token else Err (At token.offset (Expected expected.FieldType))

-- the name of a type that stands first in a passage
abbrev pub type_name : Passage → Result Token Fault
type_name passage = type_name_of passage.tokens passage.end

-- a type by a name, whose path's front is so long
abbrev pub named_after : ℕ → Passage → Result Written Fault
named_after front passage =
    let rest = after front passage in
    and_then (type_name rest) (λ name.
    and_then (types_after (after 1 rest)) (λ types.
    Ok (named (record {
      name = name;
      origin = origin_of front passage.tokens;
      types = types;
    }))))

-- a type by a path
abbrev pub path_type : Passage → Result Written Fault
path_type passage = named_after (front_len passage.tokens) passage

-- the type that a passage is
unfoldable pub written_type : Passage → Result Written Fault
written_type passage =
    if sees_open Round passage.tokens
    then and_then (held_by passage) (λ held. Ok (in_round held))
    else (if sees_open Square passage.tokens
    then and_then (held_by passage) (λ held. Ok (in_square held))
    else (if sees_mark 38 passage.tokens then Ok (reference passage)
    else (if sees_word (codes "Self") passage.tokens then this_type passage
    else path_type passage)))
