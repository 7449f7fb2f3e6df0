-- All that shapes say, with their names as bytes.
use Rattle.std.specs.Prelude.{ℕ, Bool, List, Option, map, string_bytes}
use Rattle.facet_solver.specs.declared.DomMark.{DomMark}
use Rattle.facet_solver.specs.declared.Field.{Field}
use Rattle.facet_solver.specs.declared.Shape.{Shape}
use Rattle.facet_solver.specs.declared.ShapeKind.{ShapeKind}
use Rattle.facet_solver.specs.declared.ShapeKind.TheVariants.{Struct, Enum}
use Rattle.facet_solver.specs.declared.StructKind.{StructKind}
use Rattle.facet_solver.specs.declared.Variant.{Variant}
use Rattle.facet_solver.specs.Names.{Name, optional_name}

-- all that a field says, with its names as bytes
pub record DeclaredFieldView : Type 0 where
  pub name : Name
  pub rename : Option Name
  pub shape : ℕ
  pub flattened : Bool
  pub has_default : Bool
  pub metadata : Bool
  pub dom : DomMark

-- of a field
abbrev pub field_view : Field → DeclaredFieldView
field_view f = record {
  name = string_bytes f.name;
  rename = optional_name f.rename;
  shape = f.shape;
  flattened = f.flattened;
  has_default = f.has_default;
  metadata = f.metadata;
  dom = f.dom;
}

-- all that a variant says
pub record VariantView : Type 0 where
  pub name : Name
  pub kind : StructKind
  pub fields : List DeclaredFieldView

-- of a variant
abbrev pub variant_view : Variant → VariantView
variant_view v = record {
  name = string_bytes v.name;
  kind = v.kind;
  fields = map field_view v.fields.items;
}

-- all that a kind says: the fields of a struct, the variants of an enum, or else the kind itself
pub data KindView : Type 0 where
  structure : StructKind → List DeclaredFieldView → KindView
  enumeration : List VariantView → KindView
  other : ShapeKind → KindView

-- of a kind
abbrev pub kind_view : ShapeKind → KindView
kind_view (Struct kind fields) = structure kind (map field_view fields.items)
kind_view (Enum variants) = enumeration (map variant_view variants.items)
kind_view kind = other kind

-- all that a shape says
pub record ShapeView : Type 0 where
  pub name : Name
  pub kind : KindView
  pub inner : Option ℕ
  pub proxy : Option ℕ
  pub tag : Option Name
  pub content : Option Name
  pub untagged : Bool
  pub metadata_container : Bool

-- of a shape
abbrev pub shape_view : Shape → ShapeView
shape_view s = record {
  name = string_bytes s.type_identifier;
  kind = kind_view s.kind;
  inner = s.inner;
  proxy = s.proxy;
  tag = optional_name s.tag;
  content = optional_name s.content;
  untagged = s.untagged;
  metadata_container = s.metadata_container;
}
