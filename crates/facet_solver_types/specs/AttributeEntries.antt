-- The entries of the attributes of serde and facet that stand before something.
use Rattle.std.specs.Prelude.{ℕ, zero, suc, ◌+◌, ◌-◌, ◌==◌, Bool, false, ◌&&◌, ◌||◌, if◌then◌else◌, List, [], ◌∷◌, ◌++◌, drop, codes, None, Result, Ok, Err}
use Rattle.std.specs.Str.{bytes_eq}
use Rattle.facet_solver_types.specs.declared.fault.Fault.{Fault}
use Rattle.facet_solver_types.specs.declared.grammar.run.Run.TheVariants.{Value}
use Rattle.facet_solver_types.specs.declared.problem.Expected.TheVariants.{AttributeList}
use Rattle.facet_solver_types.specs.declared.token.Bracket.TheVariants.{Round}
use Rattle.facet_solver_types.specs.Entries.{Entry, EntryValue, entries, holds, is_over, outside, value_at}
use Rattle.facet_solver_types.specs.FirstTokens.{is_name, sees_open}
use Rattle.facet_solver_types.specs.Inside.{inside}
use Rattle.facet_solver_types.specs.Passages.{Passage, after, unexpected, up_to}
use Rattle.facet_solver_types.specs.Pieces.{and_then}
use Rattle.facet_solver_types.specs.Prefixes.{attribute_len, begins_attribute}
use Rattle.facet_solver_types.specs.Runs.{run_len}
use Rattle.facet_solver_types.specs.Tokens.{Token}

-- entries, or the first fault
abbrev pub Entries : Type 0
Entries = Result (List Entry) Fault

-- whether a token is a name of this text
abbrev pub is_named : List ℕ → Token → Bool
is_named text token = is_name token.kind && bytes_eq token.text text

-- whether a token is the name of serde or of facet
abbrev pub is_ours : Token → Bool
is_ours token = is_named (codes "serde") token || is_named (codes "facet") token

-- whether an attribute of another name asks what only serde's or facet's own can say, by its name
-- and what stands behind it
abbrev pub is_refused : Token → List Token → Bool
is_refused name behind =
    if is_named (codes "serde_as") name then sees_open Round behind
    else is_over behind && (is_named (codes "flatten") name || is_named (codes "untagged") name)

-- the entries of a list in brackets; another value is none
abbrev pub in_list : Passage → EntryValue → Entries
in_list behind (holds list) = entries list
in_list behind value = Err (unexpected AttributeList behind)

-- the entries of serde's or facet's attribute, by what stands behind its name
abbrev pub own_entries : Passage → Entries
own_entries behind = and_then (value_at behind) (in_list behind)

-- an attribute of another name, as an entry
abbrev pub outside_entry : Token → Entry
outside_entry name = record { qualifier = None; name = name; value = outside }

-- the entries of an attribute of that name, by what stands behind it, and in its brackets
abbrev pub named_entries : Token → List Token → Passage → Entries
named_entries name behind inner =
    if is_ours name then own_entries (after 1 inner)
    else (if is_refused name behind then Ok (outside_entry name ∷ []) else Ok [])

-- the entries of an attribute whose brackets hold these tokens
abbrev pub entries_of : List Token → Passage → Entries
entries_of [] inner = Ok []
entries_of (name ∷ behind) inner = named_entries name behind inner

-- the entries of an attribute, by what stands in its brackets: none where it is neither serde's nor
-- facet's, unless it asks what only these can say
abbrev pub entries_in : Passage → Entries
entries_in inner = entries_of inner.tokens inner

-- entries, and then others
abbrev pub joined : Entries → Entries → Entries
joined first later = and_then first (λ es. and_then later (λ others. Ok (es ++ others)))

-- whether `cfg_attr` stands first, before a bracket
abbrev pub sees_cfg_attr : List Token → Bool
sees_cfg_attr [] = false
sees_cfg_attr (name ∷ behind) = is_named (codes "cfg_attr") name && sees_open Round behind

-- how many tokens the part of a `cfg_attr` has that stands first: its own name with the condition,
-- an attribute, or one mark between these
abbrev pub part_len : List Token → ℕ
part_len tokens =
    if sees_cfg_attr tokens then run_len Value (drop 2 tokens) + 2
    else (let len = run_len Value tokens in if len == 0 then 1 else len)

-- The entries of the parts of a `cfg_attr` that ends here. Another in it has no brackets of its own:
-- its parts stand among the others. The first `passed` tokens belong to the part before.
unfoldable pub parts_from : ℕ → ℕ → List Token → Entries
parts_from end passed [] = Ok []
parts_from end (suc passed) (token ∷ tokens) = parts_from end passed tokens
parts_from end zero (token ∷ tokens) =
    let len = part_len (token ∷ tokens) in
    joined (entries_in (up_to len (record { tokens = token ∷ tokens; end = end })))
    (parts_from end (len - 1) tokens)

-- the entries of the attributes that a `cfg_attr` holds, as if each stood alone
abbrev pub cfg_attr_entries : Passage → Entries
cfg_attr_entries inner = parts_from inner.end 0 inner.tokens

-- the entries of an attribute, by what stands in its brackets, and of those that it holds
abbrev pub all_entries_in : Passage → Entries
all_entries_in inner =
    if sees_cfg_attr inner.tokens then cfg_attr_entries inner else entries_in inner

-- the entries of the attribute that stands first
abbrev pub first_entries : List Token → Entries
first_entries tokens = all_entries_in (inside (after 1 (record { tokens = tokens; end = 0 })))

-- The entries of attributes. The first `passed` tokens belong to the one before.
unfoldable pub entries_from : ℕ → List Token → Entries
entries_from passed [] = Ok []
entries_from (suc passed) (token ∷ tokens) = entries_from passed tokens
entries_from zero (token ∷ tokens) =
    if begins_attribute false (token ∷ tokens)
    then joined (first_entries (token ∷ tokens))
    (entries_from (attribute_len false (token ∷ tokens) - 1) tokens)
    else Ok []

-- The entries of serde's and facet's attributes. Each is closed, so that nothing is told of what
-- stands after them.
abbrev pub attribute_entries : List Token → Entries
attribute_entries attributes = entries_from 0 attributes
