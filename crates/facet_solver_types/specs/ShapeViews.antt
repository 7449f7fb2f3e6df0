-- All that shapes say, with their names as bytes.
use Rattle.std.specs.Prelude.{ℕ, Bool, List, Option, map}
use Rattle.std.specs.String.{string_bytes}
use Rattle.facet_solver_shape.specs.Names.{Name, optional_name}
use Rattle.facet_solver_shape.specs.declared.shape.DomMark.{DomMark}
use Rattle.facet_solver_shape.specs.declared.shape.Field as field
use Rattle.facet_solver_shape.specs.declared.shape.Shape as shape
use Rattle.facet_solver_shape.specs.declared.shape.ShapeKind.{ShapeKind}
use Rattle.facet_solver_shape.specs.declared.shape.ShapeKind.TheVariants.{Struct, Enum}
use Rattle.facet_solver_shape.specs.declared.shape.StructKind.{StructKind}
use Rattle.facet_solver_shape.specs.declared.shape.Variant as variant

-- all that a field says
pub record Field : Type 0 where
  pub name : Name
  pub rename : Option Name
  pub shape : ℕ
  pub flattened : Bool
  pub has_default : Bool
  pub metadata : Bool
  pub dom : DomMark

-- what is seen of a field
abbrev pub field_view : field.Field → Field
field_view f = record {
  name = string_bytes f.name;
  rename = optional_name f.rename;
  shape = f.shape;
  flattened = f.flattened;
  has_default = f.has_default;
  metadata = f.metadata;
  dom = f.dom;
}

-- all that a variant says
pub record Variant : Type 0 where
  pub name : Name
  pub kind : StructKind
  pub fields : List Field

-- what is seen of a variant
abbrev pub variant_view : variant.Variant → Variant
variant_view v = record {
  name = string_bytes v.name;
  kind = v.kind;
  fields = map field_view v.fields.items;
}

-- all that a kind says: the fields of a struct, the variants of an enum, or else the kind itself
pub data Kind : Type 0 where
  structure : StructKind → List Field → Kind
  enumeration : List Variant → Kind
  other : ShapeKind → Kind

-- what is seen of a kind
abbrev pub kind_view : ShapeKind → Kind
kind_view (Struct kind fields) = structure kind (map field_view fields.items)
kind_view (Enum variants) = enumeration (map variant_view variants.items)
kind_view kind = other kind

-- all that a shape says
pub record Shape : Type 0 where
  pub name : Name
  pub kind : Kind
  pub inner : Option ℕ
  pub proxy : Option ℕ
  pub tag : Option Name
  pub content : Option Name
  pub untagged : Bool
  pub metadata_container : Bool

-- what is seen of a shape
abbrev pub shape_view : shape.Shape → Shape
shape_view s = record {
  name = string_bytes s.type_identifier;
  kind = kind_view s.kind;
  inner = s.inner;
  proxy = s.proxy;
  tag = optional_name s.tag;
  content = optional_name s.content;
  untagged = s.untagged;
  metadata_container = s.metadata_container;
}

-- what is seen of shapes
abbrev pub shapes_view : List shape.Shape → List Shape
shapes_view shapes = map shape_view shapes
