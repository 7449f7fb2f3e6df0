-- The shapes of types. Other types stand in them by the places of their ids.
use Rattle.std.specs.Prelude.{ℕ, ◌+◌, false, if◌then◌else◌, List, [], ◌∷◌, Option, Some, None, is_some, slice_get, decimal}
use Rattle.facet_solver_shape.specs.Names.{Name}
use Rattle.facet_solver_shape.specs.declared.shape.DomMark.TheVariants as marks
use Rattle.facet_solver_shape.specs.declared.shape.ShapeKind.TheVariants as kinds
use Rattle.facet_solver_shape.specs.declared.shape.StructKind.TheVariants.{Tuple}
use Rattle.facet_solver_types.specs.Links.{place_in}
use Rattle.facet_solver_types.specs.Paired.{paired}
use Rattle.facet_solver_types.specs.ShapeViews.{Field, Kind, Shape, Variant, structure, enumeration, other}
use Rattle.facet_solver_types.specs.StandardShapes.{standard_kind}
use Rattle.facet_solver_types.specs.TypeEntries.{Form, TypeEntry, scalar, option, list, array, slice, set, mapping, pointer, tuple, dynamic, standard, declared}
use Rattle.facet_solver_types.specs.Understood.{Declaration, Declared, DeclaredField, DeclaredVariant, struct, enum, proxied}

-- a field of this type
abbrev pub field_of : List Name → DeclaredField → Name → Field
field_of ids f id = record {
  name = f.name;
  rename = f.rename;
  shape = place_in ids id;
  flattened = is_some f.flattened;
  has_default = f.has_default;
  metadata = f.metadata;
  dom = f.dom;
}

-- fields of these types
abbrev pub fields_of : List Name → List DeclaredField → List Name → List Field
fields_of ids fields types = paired (field_of ids) fields types

-- a variant whose fields have these types
abbrev pub variant_of : List Name → DeclaredVariant → List Name → Variant
variant_of ids v types =
    record { name = v.name; kind = v.kind; fields = fields_of ids v.fields types }

-- variants whose fields have these types
abbrev pub variants_of : List Name → List DeclaredVariant → List (List Name) → List Variant
variants_of ids variants types = paired (variant_of ids) variants types

-- a field of a tuple: its number, and its type
abbrev pub tuple_field : List Name → ℕ → Name → Field
tuple_field ids number id = record {
  name = decimal number;
  rename = None;
  shape = place_in ids id;
  flattened = false;
  has_default = false;
  metadata = false;
  dom = marks.None;
}

-- the fields of a tuple of these types, from a number on
abbrev pub tuple_fields : List Name → ℕ → List Name → List Field
tuple_fields ids number [] = []
tuple_fields ids number (id ∷ types) =
    tuple_field ids number id ∷ tuple_fields ids (number + 1) types

-- a shape of a kind, without attributes
abbrev pub plain : Name → Kind → Shape
plain id kind = record {
  name = id;
  kind = kind;
  inner = None;
  proxy = None;
  tag = None;
  content = None;
  untagged = false;
  metadata_container = false;
}

-- the first of some lists of types
abbrev pub first_types : List (List Name) → List Name
first_types [] = []
first_types (types ∷ others) = types

-- the place of the first of some types
abbrev pub first_place : List Name → List Name → Option ℕ
first_place ids [] = None
first_place ids (id ∷ types) = Some (place_in ids id)

-- the shape of what is declared under an id, with these types
abbrev pub declared_shape : List Name → Name → Declared → List (List Name) → Shape
declared_shape ids id (struct kind fields is_transparent says_so is_container) types =
    let own = first_types types in
    record (plain id (structure kind (fields_of ids fields own))) {
      inner = if is_transparent then first_place ids own else None;
      metadata_container = is_container;
    }
declared_shape ids id (enum variants tagging) types =
    record (plain id (enumeration (variants_of ids variants types))) {
      tag = tagging.tag;
      content = tagging.content;
      untagged = tagging.untagged;
    }
declared_shape ids id (proxied proxies) types =
    record (plain id (other kinds.Other)) { proxy = first_place ids (first_types types) }
declared_shape ids id others types = plain id (other kinds.Other)

-- the kind of a type that no declaration declares
abbrev pub kind_of : List Name → Form → Kind
kind_of ids (scalar kind) = other (kinds.Scalar kind)
kind_of ids (option inside) = other (kinds.Option (place_in ids inside))
kind_of ids (list inside) = other (kinds.List (place_in ids inside))
kind_of ids (array inside) = other (kinds.Array (place_in ids inside))
kind_of ids (slice inside) = other (kinds.Slice (place_in ids inside))
kind_of ids (set inside) = other (kinds.Set (place_in ids inside))
kind_of ids (mapping key value) = other (kinds.Map (place_in ids key) (place_in ids value))
kind_of ids (pointer inside) = other (kinds.Pointer (Some (place_in ids inside)))
kind_of ids (tuple types) = structure Tuple (tuple_fields ids 0 types)
kind_of ids dynamic = other kinds.DynamicValue
kind_of ids (standard kind types) = standard_kind ids kind types
kind_of ids (declared index types) = other kinds.Other

-- the shape of what a declaration declares under an id, with these types
abbrev pub found_shape : List Name → Name → Option Declaration → List (List Name) → Shape
found_shape ids id None types = plain id (other kinds.Other)
found_shape ids id (Some declaration) types = declared_shape ids id declaration.declared types

-- the shape of a type of this id and form
abbrev pub shape_by : List Declaration → List Name → Name → Form → Shape
shape_by declarations ids id (declared index types) =
    found_shape ids id (slice_get declarations index) types
shape_by declarations ids id form = plain id (kind_of ids form)

-- the shape of a type
abbrev pub shape_of : List Declaration → List Name → TypeEntry → Shape
shape_of declarations ids entry = shape_by declarations ids entry.id entry.form
