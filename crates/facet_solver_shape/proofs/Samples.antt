-- Shapes, fields and variants written out: what the rows of the definitions are tried on.
use Rattle.std.proofs.Common.{◌≡◌, ℕ, zero, suc, ◌<◌, ◌^◌, Bool, true, false, ltb, List, [], ◌∷◌, length, None, String, Vec, IsAscii, IsUtf8, refl, le_refl, codes}
use Rattle.std.proofs.lemmas.Bool.{and_parts}
use Rattle.std.proofs.lemmas.Str.{IsUtf8-from_ascii}
use Rattle.std.specs.List.{list_all}
use Rattle.std.specs.declared.alloc.Global.{Global}
use borrow.Author.Tests.{ltb-true}
use denote.RawPtr.{null_ptr}
use Rattle.facet_solver_shape.specs.Fields.{FieldView}
use Rattle.facet_solver_shape.specs.Names.{Name}
use Rattle.facet_solver_shape.specs.Paths.{by_field}
use Rattle.facet_solver_shape.specs.declared.resolution.key.FieldCategory.{FieldCategory}
use Rattle.facet_solver_shape.specs.declared.shape.Shape.{Shape}
use Rattle.facet_solver_shape.specs.declared.shape.Field.{Field}
use Rattle.facet_solver_shape.specs.declared.shape.Variant.{Variant}
use Rattle.facet_solver_shape.specs.declared.shape.ShapeKind.{ShapeKind}
use Rattle.facet_solver_shape.specs.declared.shape.ShapeKind.TheVariants as kinds
use Rattle.facet_solver_shape.specs.declared.shape.ScalarType.TheVariants as scalars
use Rattle.facet_solver_shape.specs.declared.shape.StructKind.TheVariants as structs
use Rattle.facet_solver_shape.specs.declared.shape.DomMark.TheVariants as marks

-- the heap
abbrev pub heap : Global
heap = record { memory = record { seal = tt } }

-- a vector without values
abbrev no_values : {A : Type 0} → Vec A Global
no_values = record {
  ptr = null_ptr;
  len = 0;
  cap = 0;
  alloc = heap;
  items = [];
  ok = (refl, le_refl 0);
  small = ltb-true 0 (2 ^ 63) refl;
}

-- a vector of these values, if they are not too many
abbrev vec_if : {A : Type 0} (items : List A) (b : Bool) → ltb (length items) (2 ^ 63) ≡ b
    → Vec A Global
vec_if items false long = no_values
vec_if items true short = record {
  ptr = null_ptr;
  len = length items;
  cap = length items;
  alloc = heap;
  items = items;
  ok = (refl, le_refl (length items));
  small = ltb-true (length items) (2 ^ 63) short;
}

-- a vector of a few values
abbrev pub vec : {A : Type 0} → List A → Vec A Global
vec items = vec_if items (ltb (length items) (2 ^ 63)) refl

-- whether a byte is of ASCII
abbrev is_ascii : ℕ → Bool
is_ascii byte = ltb byte 128

-- bytes that pass are of ASCII
pub all_ascii : (bytes : List ℕ) → list_all is_ascii bytes ≡ true → IsAscii bytes
all_ascii [] pass i = ltb-true 0 128 refl
all_ascii (b ∷ bytes) pass zero = ltb-true b 128 (and_parts _ _ pass).0
all_ascii (b ∷ bytes) pass (suc i) = all_ascii bytes (and_parts _ _ pass).1 i

-- a text of these bytes, if they are of ASCII
abbrev text_if : (bytes : Vec ℕ Global) (b : Bool) → list_all is_ascii bytes.items ≡ b
    → String Global
text_if bytes false other = record {
  bytes = no_values;
  ok = ∣ IsUtf8-from_ascii [] (all_ascii [] refl) ∣₁;
}
text_if bytes true pass = record {
  bytes = bytes;
  ok = ∣ IsUtf8-from_ascii bytes.items (all_ascii bytes.items pass) ∣₁;
}

-- a text of a few letters
abbrev pub text : Name → String Global
text name = text_if (vec name) (list_all is_ascii (vec name).items) refl

-- a field of a name and a shape
abbrev pub field : Name → ℕ → Field
field name shape = record {
  name = text name;
  rename = None;
  shape = shape;
  flattened = false;
  has_default = false;
  metadata = false;
  dom = marks.None;
}

-- a flattened field of a name and a shape
abbrev pub flat_field : Name → ℕ → Field
flat_field name shape = record (field name shape) { flattened = true }

-- a variant of a name, with these fields
abbrev pub variant : Name → List Field → Variant
variant name fields = record { name = text name; kind = structs.Struct; fields = vec fields }

-- a shape of a name and a kind
abbrev pub shape : Name → ShapeKind → Shape
shape name kind = record {
  type_identifier = text name;
  kind = kind;
  inner = None;
  proxy = None;
  tag = None;
  content = None;
  untagged = false;
  metadata_container = false;
}

-- a number
abbrev pub number : Shape
number = shape (codes "u8") (kinds.Scalar scalars.U8)

-- a struct `S` of these fields
abbrev pub struct_of : List Field → Shape
struct_of fields = shape (codes "S") (kinds.Struct structs.Struct (vec fields))

-- an enum `E` of these variants
abbrev pub enum_of : List Variant → Shape
enum_of variants = shape (codes "E") (kinds.Enum (vec variants))

-- a required field of a name and a category at the root of a resolution
abbrev pub seen_field : FieldCategory → Name → FieldView
seen_field category name = record {
  name = name;
  path = by_field name ∷ [];
  is_required = true;
  shape = 0;
  field = field name 0;
  category = category;
}
