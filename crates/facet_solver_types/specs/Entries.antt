-- What stands in an attribute of serde or facet: entries, with `,` between.
use Rattle.std.specs.Prelude.{ℕ, Bool, true, false, if◌then◌else◌, List, [], ◌∷◌, drop, map, Option, Some, None, option_map, Result, Ok, Err}
use Rattle.facet_solver_types.specs.declared.fault.Fault.{Fault}
use Rattle.facet_solver_types.specs.declared.fault.Fault.TheVariants.{At}
use Rattle.facet_solver_types.specs.declared.grammar.entry.Entry as code_entry
use Rattle.facet_solver_types.specs.declared.grammar.entry.EntryValue as code
use Rattle.facet_solver_types.specs.declared.grammar.run.Run.TheVariants.{Value}
use Rattle.facet_solver_types.specs.declared.problem.Expected.TheVariants.{Attribute, AttributeEnd}
use Rattle.facet_solver_types.specs.declared.problem.Problem.TheVariants.{Expected}
use Rattle.facet_solver_types.specs.declared.token.Bracket.TheVariants.{Round}
use Rattle.facet_solver_types.specs.declared.token.TokenKind.{TokenKind}
use Rattle.facet_solver_types.specs.declared.token.TokenKind.TheVariants.{Keyword}
use Rattle.facet_solver_types.specs.FirstTokens.{is_name, sees_mark, sees_open, sees_path}
use Rattle.facet_solver_types.specs.Inside.{inside}
use Rattle.facet_solver_types.specs.Passages.{Passage, after, passage_view, unexpected}
use Rattle.facet_solver_types.specs.Pieces.{and_then, each, pieces}
use Rattle.facet_solver_types.specs.Runs.{group_len}
use Rattle.facet_solver_types.specs.Tokens.{Token, token_view}

-- What stands after the name in an entry: nothing, some tokens after `=`, or some in brackets. Or
-- the entry asks for something that only serde's and facet's own attributes can say.
pub data EntryValue : Type 0 where
  nothing : EntryValue
  is : Passage → EntryValue
  holds : Passage → EntryValue
  outside : EntryValue

-- an entry: what stands before `::` if anything, its name, and what stands after it
pub record Entry : Type 0 where
  pub qualifier : Option Token
  pub name : Token
  pub value : EntryValue

-- what is seen of what stands after a name
abbrev pub value_view : code.EntryValue → EntryValue
value_view code.TheVariants.None = nothing
value_view (code.TheVariants.Is passage) = is (passage_view passage)
value_view (code.TheVariants.Holds passage) = holds (passage_view passage)
value_view code.TheVariants.Outside = outside

-- what is seen of an entry
abbrev pub entry_view : code_entry.Entry → Entry
entry_view entry =
    record {
      qualifier = option_map token_view entry.qualifier;
      name = token_view entry.name;
      value = value_view entry.value;
    }

-- what is seen of entries
abbrev pub entries_view : List code_entry.Entry → List Entry
entries_view found = map entry_view found

-- whether a token may name an entry: a name or a keyword
abbrev pub is_entry_word : TokenKind → Bool
is_entry_word Keyword = true
is_entry_word kind = is_name kind

-- the name or keyword that stands first in some tokens, and where these end
abbrev pub word_of : List Token → ℕ → Result Token Fault
word_of [] end = Err (At end (Expected Attribute))
word_of (token ∷ tokens) end =
    if is_entry_word token.kind then Ok token else Err (At token.offset (Expected Attribute))

-- the name or keyword that stands first in a passage
abbrev pub entry_word : Passage → Result Token Fault
entry_word passage = word_of passage.tokens passage.end

-- whether there are no tokens
abbrev pub is_over : List Token → Bool
is_over [] = true
is_over (token ∷ tokens) = false

-- tokens in brackets, where nothing stands after these
abbrev pub held : Passage → Result EntryValue Fault
held passage =
    let len = group_len passage.tokens in
    if is_over (drop len passage.tokens) then Ok (holds (inside passage))
    else Err (unexpected AttributeEnd (after len passage))

-- what stands after the name of an entry
abbrev pub value_at : Passage → Result EntryValue Fault
value_at passage =
    if is_over passage.tokens then Ok nothing
    else (if sees_mark 61 passage.tokens then Ok (is (after 1 passage))
    else (if sees_open Round passage.tokens then held passage
    else Err (unexpected AttributeEnd passage)))

-- an entry of that name, before what stands after it
abbrev pub named_entry : Option Token → Token → Passage → Result Entry Fault
named_entry qualifier name rest =
    and_then (value_at rest)
    (λ value. Ok (record { qualifier = qualifier; name = name; value = value }))

-- an entry whose first word is read: that is its name, unless `::` follows
abbrev pub entry_after : Token → Passage → Result Entry Fault
entry_after first rest =
    if sees_path rest.tokens
    then and_then (entry_word (after 1 rest)) (λ name. named_entry (Some first) name (after 2 rest))
    else named_entry None first rest

-- the entry that a passage is
abbrev pub entry_at : Passage → Result Entry Fault
entry_at passage = and_then (entry_word passage) (λ first. entry_after first (after 1 passage))

-- the entries of a passage: one up to each comma outside brackets
abbrev pub entries : Passage → Result (List Entry) Fault
entries passage = each entry_at (pieces Value passage)
