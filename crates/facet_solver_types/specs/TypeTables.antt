-- Types with their declarations, of which shapes are made.
use Rattle.std.specs.Prelude.{ℕ, Bool, true, false, ◌&&◌, not, List, Option, slice_get, option_map}
use Rattle.std.specs.Option.{option_map_or}
use Rattle.facet_solver_shape.specs.Names.{Name}
use Rattle.facet_solver_shape.specs.declared.shape.StructKind.{StructKind}
use Rattle.facet_solver_shape.specs.declared.shape.StructKind.TheVariants.{Struct}
use Rattle.facet_solver_types.specs.declared.catalogue.table.TypeTable as table
use Rattle.facet_solver_types.specs.Links.{place_in}
use Rattle.facet_solver_types.specs.PlacedNames.{names_in}
use Rattle.facet_solver_types.specs.TypeEntries.{Form, TypeEntry, declared, dynamic, entries_view, mapping, option, standard}
use Rattle.facet_solver_types.specs.Understood.{Declaration, Declared, declarations_view, enum, struct}

-- types with their declarations: the declarations of a text, the types, and their ids
pub record TypeTable : Type 0 where
  pub declarations : List Declaration
  pub entries : List TypeEntry
  pub ids : List Name

-- what is seen of it
abbrev pub table_view : table.TypeTable → TypeTable
table_view k = record {
  declarations = declarations_view k.declarations.now;
  entries = entries_view k.entries.now;
  ids = names_in k.ids.now;
}

-- what the type of an id is made of, if there is one
abbrev pub form_of : TypeTable → Name → Option Form
form_of table id = option_map (λ (e : TypeEntry). e.form) (slice_get table.entries (place_in table.ids id))

-- whether fields have names
abbrev pub has_names : StructKind → Bool
has_names Struct = true
has_names kind = false

-- whether what is declared has members of its own: named fields, or variants
abbrev pub has_members : Declared → Bool
has_members (struct kind fields is_transparent says_so is_container) = has_names kind && not is_transparent
has_members (enum variants tagging) = true
has_members other = false

-- whether the declaration at an index does
abbrev pub declares_members : TypeTable → ℕ → Bool
declares_members table index =
    option_map_or (λ (d : Declaration). has_members d.declared)
    (slice_get table.declarations index) false

-- whether a type has members that may stand among others
abbrev pub is_spread : TypeTable → Form → Bool
is_spread table (declared index types) = declares_members table index
is_spread table (mapping key value) = true
is_spread table dynamic = true
is_spread table (standard kind types) = true
is_spread table form = false

-- whether a type may be flattened: one with members, or an option of one
abbrev pub may_flatten : TypeTable → Form → Bool
may_flatten table (option inside) = option_map_or (is_spread table) (form_of table inside) false
may_flatten table form = is_spread table form

-- whether the type of an id may
abbrev pub flattens : TypeTable → Name → Bool
flattens table id = option_map_or (may_flatten table) (form_of table id) false
