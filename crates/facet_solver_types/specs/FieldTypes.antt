-- The types that declarations mention: those of fields, and those as which something is read.
use Rattle.std.specs.Prelude.{ℕ, if◌then◌else◌, List, [], ◌∷◌, ◌++◌, map, Result, Ok, Err}
use Rattle.std.specs.List.{fold}
use Rattle.std.specs.Option.{is_some}
use Rattle.std.specs.String.{string_bytes}
use Rattle.facet_solver_shape.specs.Names.{Name, name_eq}
use Rattle.facet_solver_types.specs.declared.fault.Fault.{Fault}
use Rattle.facet_solver_types.specs.declared.fault.Fault.TheVariants.{At}
use Rattle.facet_solver_types.specs.declared.problem.Problem.TheVariants.{OfType}
use Rattle.facet_solver_types.specs.declared.type_problem.TypeProblem.TheVariants.{OtherType}
use Rattle.facet_solver_types.specs.declared.typing.field_types.Group as code_group
use Rattle.facet_solver_types.specs.declared.typing.field_types.Groups as code_groups
use Rattle.facet_solver_types.specs.Flattened.{flattened_type}
use Rattle.facet_solver_types.specs.Mentions.{Mention, whole_type}
use Rattle.facet_solver_types.specs.Passages.{Passage}
use Rattle.facet_solver_types.specs.Pieces.{and_then}
use Rattle.facet_solver_types.specs.Scopes.{Scope}
use Rattle.facet_solver_types.specs.TypeEntries.{TypeEntry, entries_view}
use Rattle.facet_solver_types.specs.Understood.{Declared, DeclaredField, DeclaredVariant, Proxy, struct, enum, proxied, alias, home, elsewhere, unread}
use Rattle.facet_solver_types.specs.Uses.{Use, uses_view}

-- the types of some fields by their ids, as far as they have no fault; the entries of all types
-- that they mention, and what is declared of these; and the faults of the other types
pub record Group : Type 0 where
  pub ids : List Name
  pub entries : List TypeEntry
  pub uses : List Use
  pub faults : List Fault

-- what is seen of the types of some fields
abbrev pub group_view : code_group.Group → Group
group_view group = record {
  ids = map string_bytes group.ids.items;
  entries = entries_view group.entries.items;
  uses = uses_view group.uses.items;
  faults = group.faults.items;
}

-- likewise the types of the fields of each variant
pub record Groups : Type 0 where
  pub types : List (List Name)
  pub entries : List TypeEntry
  pub uses : List Use
  pub faults : List Fault

-- what is seen of the types of the fields of each variant
abbrev pub groups_view : code_groups.Groups → Groups
groups_view groups = record {
  types = map (λ ids. map string_bytes ids.items) groups.types.items;
  entries = entries_view groups.entries.items;
  uses = uses_view groups.uses.items;
  faults = groups.faults.items;
}

-- no types
abbrev pub no_group : Group
no_group = record { ids = []; entries = []; uses = []; faults = [] }

-- no lists of types
abbrev pub no_groups : Groups
no_groups = record { types = []; entries = []; uses = []; faults = [] }

-- types, and one more, or its fault
abbrev pub with_type : Group → Result Mention Fault → Group
with_type group (Ok mention) = record {
  ids = group.ids ++ mention.id ∷ [];
  entries = group.entries ++ mention.entries;
  uses = group.uses ++ mention.uses;
  faults = group.faults;
}
with_type group (Err fault) = record group { faults = group.faults ++ fault ∷ [] }

-- lists of types, and one more
abbrev pub with_group : Groups → Group → Groups
with_group groups group = record {
  types = groups.types ++ group.ids ∷ [];
  entries = groups.entries ++ group.entries;
  uses = groups.uses ++ group.uses;
  faults = groups.faults ++ group.faults;
}

-- the fault where an attribute says another type
abbrev pub other_type : ℕ → Fault
other_type offset = At offset (OfType OtherType)

-- what an attribute says is the type of this id
abbrev pub agrees : Scope → Name → Proxy → Result (Unit {0}) Fault
agrees scope id proxy =
    and_then (whole_type scope proxy.said)
    (λ mention. if name_eq mention.id id then Ok tt else Err (other_type proxy.offset))

-- what each of some attributes says is the type of this id
abbrev pub all_agree : Scope → Name → List Proxy → Result (Unit {0}) Fault
all_agree scope id [] = Ok tt
all_agree scope id (proxy ∷ others) =
    and_then (agrees scope id proxy) (λ end. all_agree scope id others)

-- the type that some attributes say: all say the same
abbrev pub proxied_type : Scope → Proxy → List Proxy → Result Mention Fault
proxied_type scope first others =
    and_then (whole_type scope first.said) (λ mention.
    and_then (all_agree scope mention.id others) (λ end. Ok mention))

-- the type that is written, of a field that is flattened or not
abbrev pub written_type : Scope → DeclaredField → Result Mention Fault
written_type scope field =
    if is_some field.flattened then flattened_type scope field.written
    else whole_type scope field.written

-- the type that some attributes say, or else this
abbrev pub said_or_written
    : Scope → Result Mention Fault → List Proxy → Result Mention Fault
said_or_written scope written [] = written
said_or_written scope written (first ∷ others) = proxied_type scope first others

-- the type of a field: the written one is not looked at where an attribute says another
abbrev pub field_type : Scope → DeclaredField → Result Mention Fault
field_type scope field = said_or_written scope (written_type scope field) field.proxies

-- the types of some fields
abbrev pub field_types : Scope → List DeclaredField → Group
field_types scope fields =
    fold (λ group (f : DeclaredField). with_type group (field_type scope f)) no_group fields

-- the types of the fields of each variant
abbrev pub variant_types : Scope → List DeclaredVariant → Groups
variant_types scope variants =
    fold (λ groups (v : DeclaredVariant). with_group groups (field_types scope v.fields))
    no_groups variants

-- one list of types
abbrev pub one_group : Group → Groups
one_group group = with_group no_groups group

-- the type as which something is read
abbrev pub proxy_types : Scope → List Proxy → Groups
proxy_types scope [] = no_groups
proxy_types scope (first ∷ others) =
    one_group (with_type no_group (proxied_type scope first others))

-- the types that a declaration mentions; an alias is looked at where it is named
abbrev pub declared_types : Scope → Declared → Groups
declared_types scope (struct kind fields is_transparent says_so is_container) =
    one_group (field_types scope fields)
declared_types scope (enum variants tagging) = variant_types scope variants
declared_types scope (proxied proxies) = proxy_types scope proxies
declared_types scope (alias passage) = no_groups
declared_types scope home = no_groups
declared_types scope elsewhere = no_groups
declared_types scope unread = no_groups
