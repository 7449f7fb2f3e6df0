-- The shapes that a JSON value stands for.
use Rattle.std.specs.Prelude.{ℕ, Option, Some, codes, [], ◌∷◌, List, option_map}
use Rattle.serde_json.specs.Data.{Data}
use Rattle.serde_json.specs.Find.{get, as_str}
use Rattle.facet_solver.specs.Names.{Name}
use Rattle.facet_solver.specs.declared.StructKind.{StructKind}
use Rattle.facet_solver.specs.declared.StructKind.TheVariants.{Struct as ByName}
use Rattle.facet_solver.specs.declared.DomMark.{DomMark}
use Rattle.facet_solver.specs.declared.DomMark.TheVariants.{None as Unmarked}
use Rattle.facet_solver.specs.declared.ScalarType.{ScalarType}
use Rattle.facet_solver.specs.declared.ShapeKind.{ShapeKind}
use Rattle.facet_solver.specs.declared.ShapeKind.TheVariants as kinds
use Rattle.facet_solver_program.specs.ShapeView.{DeclaredFieldView, VariantView, KindView, structure, enumeration, other, ShapeView}
use Rattle.facet_solver_program.specs.Members.{given, each, or_absent, text_at, optional_text_at, index_at, optional_index_at, flag_at, items_at}
use Rattle.facet_solver_program.specs.Words.{said_by, struct_kind, dom_mark, scalar_type}

-- the mark of a field
abbrev pub mark_at : Data → Option DomMark
mark_at d = or_absent Unmarked (λ t. given (as_str t) dom_mark) (get (codes "dom") d)

-- how fields are written, by the word under a key
abbrev pub struct_kind_at : Name → Data → Option StructKind
struct_kind_at key d = or_absent ByName (λ t. given (as_str t) struct_kind) (get key d)

-- the basic type of a scalar
abbrev pub scalar_at : Data → Option ScalarType
scalar_at d = given (text_at (codes "scalar") d) scalar_type

-- a field
abbrev pub field : Data → Option DeclaredFieldView
field d =
    given (text_at (codes "name") d) (λ name.
    given (optional_text_at (codes "rename") d) (λ rename.
    given (index_at (codes "shape") d) (λ shape.
    given (flag_at (codes "flatten") d) (λ flattened.
    given (flag_at (codes "default") d) (λ has_default.
    given (flag_at (codes "metadata") d) (λ metadata.
    given (mark_at d) (λ dom.
    Some record {
      name = name;
      rename = rename;
      shape = shape;
      flattened = flattened;
      has_default = has_default;
      metadata = metadata;
      dom = dom;
    })))))))

-- the fields that a value lists
abbrev pub fields_at : Data → Option (List DeclaredFieldView)
fields_at d = given (items_at (codes "fields") d) (each field)

-- a variant
abbrev pub variant : Data → Option VariantView
variant d =
    given (text_at (codes "name") d) (λ name.
    given (struct_kind_at (codes "kind") d) (λ kind.
    given (fields_at d) (λ fields.
    Some record { name = name; kind = kind; fields = fields })))

-- a struct
abbrev pub struct_of : Data → Option KindView
struct_of d =
    given (struct_kind_at (codes "struct") d) (λ kind.
    given (fields_at d) (λ fields.
    Some (structure kind fields)))

-- an enum
abbrev pub enum_of : Data → Option KindView
enum_of d =
    given (items_at (codes "variants") d) (λ items.
    option_map enumeration (each variant items))

-- a kind that is made of one index
abbrev pub kind_of_index : (ℕ → ShapeKind) → Data → Option KindView
kind_of_index made d = option_map (λ of. other (made of)) (index_at (codes "of") d)

-- a map
abbrev pub map_of : Data → Option KindView
map_of d =
    given (index_at (codes "key") d) (λ key.
    option_map (λ value. other (kinds.Map key value)) (index_at (codes "value") d))

-- what a shape is made of, by the word for its kind
abbrev pub kind_said : Data → Name → Option (Option KindView)
kind_said d =
    said_by ((codes "scalar", option_map (λ s. other (kinds.Scalar s)) (scalar_at d))
    ∷ (codes "struct", struct_of d) ∷ (codes "enum", enum_of d)
    ∷ (codes "option", kind_of_index (λ of. kinds.Option of) d)
    ∷ (
      codes "pointer",
      option_map (λ of. other (kinds.Pointer of)) (optional_index_at (codes "of") d),
    )
    ∷ (codes "list", kind_of_index (λ of. kinds.List of) d)
    ∷ (codes "array", kind_of_index (λ of. kinds.Array of) d)
    ∷ (codes "slice", kind_of_index (λ of. kinds.Slice of) d)
    ∷ (codes "set", kind_of_index (λ of. kinds.Set of) d)
    ∷ (codes "map", map_of d)
    ∷ (codes "dynamic", Some (other kinds.DynamicValue))
    ∷ (codes "other", Some (other kinds.Other)) ∷ [])

-- what a shape is made of
abbrev pub kind : Data → Option KindView
kind d = given (text_at (codes "kind") d) (λ word. given (kind_said d word) (λ kind. kind))

-- a shape
unfoldable pub shape : Data → Option ShapeView
shape d =
    given (text_at (codes "id") d) (λ name.
    given (kind d) (λ kind.
    given (optional_index_at (codes "inner") d) (λ inner.
    given (optional_index_at (codes "proxy") d) (λ proxy.
    given (optional_text_at (codes "tag") d) (λ tag.
    given (optional_text_at (codes "content") d) (λ content.
    given (flag_at (codes "untagged") d) (λ untagged.
    given (flag_at (codes "metadata") d) (λ metadata_container.
    Some record {
      name = name;
      kind = kind;
      inner = inner;
      proxy = proxy;
      tag = tag;
      content = content;
      untagged = untagged;
      metadata_container = metadata_container;
    }))))))))
