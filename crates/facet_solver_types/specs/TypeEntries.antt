-- Types, each by its id, with the ids of the types that it is made of.
use Rattle.std.specs.Prelude.{ℕ, List, map}
use Rattle.std.specs.String.{string_bytes}
use Rattle.facet_solver_shape.specs.Names.{Name}
use Rattle.facet_solver_shape.specs.declared.shape.ScalarType.{ScalarType}
use Rattle.facet_solver_types.specs.declared.standard.Standard.{Standard}
use Rattle.facet_solver_types.specs.declared.type_entry.Form as form
use Rattle.facet_solver_types.specs.declared.type_entry.Form.TheVariants.{Scalar, Option, List as ListForm, Array, Slice, Set, Map, Pointer, Tuple, Dynamic, Standard as StandardForm, Declared}
use Rattle.facet_solver_types.specs.declared.type_entry.TypeEntry as entry

-- what a type is made of, with other types by their ids: one of its kind; a type of std, with the
-- types of its members or of its variants that have a value; or what the declaration at an index
-- declares, with the types of the fields of a struct, of the fields of each variant, or the one type
-- as which it is read
pub data Form : Type 0 where
  scalar : ScalarType → Form
  option : Name → Form
  list : Name → Form
  array : Name → Form
  slice : Name → Form
  set : Name → Form
  mapping : Name → Name → Form
  pointer : Name → Form
  tuple : List Name → Form
  dynamic : Form
  standard : Standard → List Name → Form
  declared : ℕ → List (List Name) → Form

-- what is seen of a form
abbrev pub form_view : form.Form → Form
form_view (Scalar kind) = scalar kind
form_view (Option inside) = option (string_bytes inside)
form_view (ListForm inside) = list (string_bytes inside)
form_view (Array inside) = array (string_bytes inside)
form_view (Slice inside) = slice (string_bytes inside)
form_view (Set inside) = set (string_bytes inside)
form_view (Map key value) = mapping (string_bytes key) (string_bytes value)
form_view (Pointer inside) = pointer (string_bytes inside)
form_view (Tuple inside) = tuple (map string_bytes inside.items)
form_view Dynamic = dynamic
form_view (StandardForm kind types) = standard kind (map string_bytes types.items)
form_view (Declared index types) =
    declared index (map (λ ids. map string_bytes ids.items) types.items)

-- a type: its id, which is the type as it is written, where aliases are followed, and lifetimes and
-- paths dropped; and what it is made of
pub record TypeEntry : Type 0 where
  pub id : Name
  pub form : Form

-- what is seen of a type
abbrev pub entry_view : entry.TypeEntry → TypeEntry
entry_view e = record { id = string_bytes e.id; form = form_view e.form }

-- what is seen of types
abbrev pub entries_view : List entry.TypeEntry → List TypeEntry
entries_view entries = map entry_view entries
