-- The types that a type mentions: itself, and those in it.
use Rattle.std.specs.Prelude.{ℕ, zero, suc, nat_lt, false, if◌then◌else◌, List, [], ◌∷◌, ◌++◌, length, map, Option, Some, None, Result, Ok, Err}
use Rattle.std.specs.String.{string_bytes}
use Rattle.facet_solver_shape.specs.Names.{Name}
use Rattle.facet_solver_types.specs.Declarations.{Parameter}
use Rattle.facet_solver_types.specs.declared.fault.Fault.{Fault}
use Rattle.facet_solver_types.specs.declared.typing.known.Applied.{Applied}
use Rattle.facet_solver_types.specs.declared.typing.known.Applied.TheVariants as made
use Rattle.facet_solver_types.specs.declared.typing.mention.Inside as code_inside
use Rattle.facet_solver_types.specs.declared.typing.mention.Mention as code
use Rattle.facet_solver_types.specs.Layers as layers
use Rattle.facet_solver_types.specs.Layers.{Head, Part, layer_at, type_part, value_part}
use Rattle.facet_solver_types.specs.Passages.{Passage, place}
use Rattle.facet_solver_types.specs.Pieces.{and_then}
use Rattle.facet_solver_types.specs.Scopes.{Scope, too_deep}
use Rattle.facet_solver_types.specs.Sites.{Site}
use Rattle.facet_solver_types.specs.Standards.{inner_entries, inner_ids}
use Rattle.facet_solver_types.specs.Tokens.{Token}
use Rattle.facet_solver_types.specs.TypeEntries.{Form, TypeEntry, entries_view, scalar, option, list, array, slice, set, mapping, pointer, tuple, dynamic, standard}
use Rattle.facet_solver_types.specs.TypeIds.{first, second, spaced, id_of}
use Rattle.facet_solver_types.specs.Uses.{Use, uses_view}

-- a type that is mentioned: its id; its entry and those of the types in it, each outer before
-- inner, without declared ones; and what is declared of these
pub record Mention : Type 0 where
  pub id : Name
  pub entries : List TypeEntry
  pub uses : List Use

-- what is seen of it
abbrev pub mention_view : code.Mention → Mention
mention_view mention = record {
  id = string_bytes mention.id;
  entries = entries_view mention.entries.items;
  uses = uses_view mention.uses.items;
}

-- the types that stand in one: their ids, and all that they mention
pub record Inside : Type 0 where
  pub ids : List Name
  pub entries : List TypeEntry
  pub uses : List Use

-- what is seen of them
abbrev pub inside_view : code_inside.Inside → Inside
inside_view inside = record {
  ids = map string_bytes inside.ids.items;
  entries = entries_view inside.entries.items;
  uses = uses_view inside.uses.items;
}

-- no types
abbrev pub nothing : Inside
nothing = record { ids = []; entries = []; uses = [] }

-- types, and one more
abbrev pub with_mention : Inside → Mention → Inside
with_mention inside mention = record {
  ids = inside.ids ++ mention.id ∷ [];
  entries = inside.entries ++ mention.entries;
  uses = inside.uses ++ mention.uses;
}

-- what a type is that takes others
abbrev pub applied_form : Applied → List Name → Form
applied_form made.Option ids = option (first ids)
applied_form made.List ids = list (first ids)
applied_form made.Set ids = set (first ids)
applied_form made.Pointer ids = pointer (first ids)
applied_form made.Map ids = mapping (first ids) (second ids)

-- what a type is made of, unless it is another or a declared one
abbrev pub form_of : Head → List Name → Option Form
form_of layers.same ids = None
form_of (layers.bound id) ids = None
form_of (layers.declared index called) ids = None
form_of (layers.alias site parameters written) ids = None
form_of (layers.scalar name kind) ids = Some (scalar kind)
form_of (layers.dynamic name) ids = Some dynamic
form_of (layers.applied name kind) ids = Some (applied_form kind ids)
form_of (layers.standard name kind) ids = Some (standard kind (inner_ids kind ids))
form_of (layers.array len) ids = Some (array (first ids))
form_of layers.slice ids = Some (slice (first ids))
form_of layers.tuple ids = Some (tuple ids)

-- the entry of a type itself, if it has one
abbrev pub own_entry : Name → Option Form → List TypeEntry
own_entry id None = []
own_entry id (Some form) = record { id = id; form = form } ∷ []

-- what stands in a type that is so outside whatever it takes, each outer before inner
abbrev pub fixed_entries : Head → List TypeEntry
fixed_entries (layers.standard name kind) = inner_entries kind
fixed_entries head = []

-- the use of a declaration that a type itself is, if it is one
abbrev pub own_use : Name → Head → List Name → List Use
own_use id (layers.declared index called) ids =
    record { index = index; id = id; arguments = ids } ∷ []
own_use id head ids = []

-- a type with those in it
abbrev pub mention_of : Scope → Head → Inside → Result Mention Fault
mention_of scope head inside =
    let id = id_of head inside.ids in
    if nat_lt 4096 (length id) then Err (too_deep scope)
    else Ok (record {
      id = id;
      entries = own_entry id (form_of head inside.ids) ++ fixed_entries head ++ inside.entries;
      uses = own_use id head inside.ids ++ inside.uses;
    })

-- a type, behind those that stand in another
abbrev pub behind : Inside → Mention → Mention
behind inside mention = record {
  id = mention.id;
  entries = inside.entries ++ mention.entries;
  uses = inside.uses ++ mention.uses;
}

-- the value that stands in a type, as if it were one
abbrev pub value : List Token → Mention
value tokens = record { id = spaced tokens; entries = []; uses = [] }

-- a rule for the types that a type mentions
abbrev pub Rule : Type 0
Rule = Scope → Passage → Result Mention Fault

-- what a part mentions
abbrev pub part_mention : Rule → Scope → Part → Result Mention Fault
part_mention rule scope (type_part passage) = rule scope passage
part_mention rule scope (value_part tokens) = Ok (value tokens)

-- types, and then those that parts mention
abbrev pub with_parts : Rule → Scope → Inside → List Part → Result Inside Fault
with_parts rule scope inside [] = Ok inside
with_parts rule scope inside (part ∷ others) =
    and_then (part_mention rule scope part) (λ mention.
    with_parts rule scope (with_mention inside mention) others)

-- where the type stands that an alias that stands so names with these parameters
abbrev pub alias_scope : Scope → Site → List Parameter → List Name → Scope
alias_scope scope site parameters ids = record {
  declarations = scope.declarations;
  site = site;
  this = None;
  parameters = parameters;
  arguments = ids;
  begin = scope.begin;
  is_root = false;
}

-- what a type mentions, with those in it: an alias is followed
abbrev pub followed : Rule → Scope → Head → Inside → Result Mention Fault
followed rule scope (layers.alias site parameters written) inside =
    and_then (rule (alias_scope scope site parameters inside.ids) written)
    (λ mention. Ok (behind inside mention))
followed rule scope head inside = mention_of scope head inside

-- the types that a type mentions, which may have so many levels
unfoldable pub mentions : ℕ → Scope → Passage → Result Mention Fault
mentions zero scope passage = Err (too_deep scope)
mentions (suc levels) scope passage =
    and_then (layer_at scope passage) (λ layer.
    and_then (with_parts (mentions levels) scope nothing layer.parts)
    (followed (mentions levels) scope layer.head))

-- the types that a whole type mentions, in 127 levels
abbrev pub whole_type : Scope → Passage → Result Mention Fault
whole_type scope passage = mentions 127 (record scope { begin = place passage }) passage
