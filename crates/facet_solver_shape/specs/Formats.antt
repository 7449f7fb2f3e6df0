-- The format of a variant: what kind of value stands for it.
use Rattle.std.specs.Prelude.{if◌then◌else◌, ℕ, List, not, Option, None, slice_get, unwrap_or, find, [], ◌∷◌, length, Bool, true, false, ◌==◌}
use Rattle.std.specs.Option.{option_map, option_and_then, option_map_or}
use Rattle.facet_solver_shape.specs.declared.shape.Shape.{Shape}
use Rattle.facet_solver_shape.specs.declared.shape.Field.{Field}
use Rattle.facet_solver_shape.specs.declared.shape.ShapeKind.{ShapeKind}
use Rattle.facet_solver_shape.specs.declared.shape.ShapeKind.TheVariants.{Struct as StructOf, Scalar, Enum, List as ListOf, Array, Slice, Set, Map}
use Rattle.std.specs.List.{list_all}
use Rattle.facet_solver_shape.specs.declared.shape.Variant.{Variant}
use Rattle.facet_solver_shape.specs.declared.shape.StructKind.{StructKind}
use Rattle.facet_solver_shape.specs.declared.shape.StructKind.TheVariants.{Unit as UnitStruct, Struct as NamedStruct, TupleStruct, Tuple as TupleKind}
use Rattle.facet_solver_shape.specs.declared.variants.format.VariantFormat.{VariantFormat}
use Rattle.facet_solver_shape.specs.declared.variants.format.VariantFormat.TheVariants.{Unit as UnitFormat, NewtypeScalar, NewtypeStruct, NewtypeTuple, NewtypeSequence, NewtypeOther, Tuple as TupleFormat, Struct as StructFormat}
use Rattle.facet_solver_shape.specs.Pointers.{end_of, end_kind}

-- the first field of a struct that is not marked as metadata
abbrev pub first_plain_field : ShapeKind → Option Field
first_plain_field (StructOf kind fields) = find (λ f. not f.metadata) fields.items
first_plain_field _ = None

-- the shape of that field, if the struct is marked as a container: a metadata container is a shape
-- that has such a value
abbrev pub contained_shape : Shape → Option ℕ
contained_shape s =
    if s.metadata_container then option_map (λ f. f.shape) (first_plain_field s.kind) else None

-- the shape that a metadata container stands for; any other shape stands for itself
abbrev pub value_shape : List Shape → ℕ → ℕ
value_shape shapes index =
    unwrap_or (option_and_then contained_shape (slice_get shapes index)) index

-- the format of a newtype, by the kind at the end of its value: a scalar keeps the shape of the
-- value, any other the end of the field
abbrev pub format_of_kind : ShapeKind → ℕ → ℕ → VariantFormat
format_of_kind (Scalar scalar) value end = NewtypeScalar value
format_of_kind (Enum variants) value end =
    if list_all (λ v. length v.fields.items == 0) variants.items then NewtypeScalar value
    else NewtypeOther end
format_of_kind (StructOf TupleKind fields) value end = NewtypeTuple end (length fields.items)
format_of_kind (StructOf TupleStruct fields) value end = NewtypeTuple end (length fields.items)
format_of_kind (StructOf NamedStruct fields) value end = NewtypeStruct end
format_of_kind (Map key item) value end = NewtypeStruct end
format_of_kind (ListOf item) value end = NewtypeSequence end
format_of_kind (Array item) value end = NewtypeSequence end
format_of_kind (Slice item) value end = NewtypeSequence end
format_of_kind (Set item) value end = NewtypeSequence end
format_of_kind _ value end = NewtypeOther end

-- the format of a newtype, by the shape of its field
abbrev pub newtype_format : List Shape → ℕ → VariantFormat
newtype_format shapes field =
    let value = value_shape shapes field in
    let end = end_of shapes field in
    option_map_or (λ k. format_of_kind k value end) (end_kind shapes value) (NewtypeOther end)

-- the format of a variant whose fields have no names: a newtype where it has one field, else a
-- tuple
abbrev pub unnamed_format : List Shape → List Field → VariantFormat
unnamed_format shapes (field ∷ []) = newtype_format shapes field.shape
unnamed_format shapes fields = TupleFormat (length fields)

-- the format of a variant of a kind with these fields
abbrev pub format_of_parts : List Shape → StructKind → List Field → VariantFormat
format_of_parts shapes UnitStruct fields = UnitFormat
format_of_parts shapes NamedStruct fields = StructFormat
format_of_parts shapes TupleStruct fields = unnamed_format shapes fields
format_of_parts shapes TupleKind fields = unnamed_format shapes fields

-- the format of a variant
unfoldable pub format_of : List Shape → Variant → VariantFormat
format_of shapes v = format_of_parts shapes v.kind v.fields.items

-- the formats that a scalar stands for
abbrev pub expects_scalar : VariantFormat → Bool
expects_scalar (NewtypeScalar shape) = true
expects_scalar _ = false

-- the formats that a sequence stands for
abbrev pub expects_sequence : VariantFormat → Bool
expects_sequence (TupleFormat arity) = true
expects_sequence (NewtypeTuple shape arity) = true
expects_sequence (NewtypeSequence shape) = true
expects_sequence _ = false

-- the formats that a mapping stands for
abbrev pub expects_mapping : VariantFormat → Bool
expects_mapping StructFormat = true
expects_mapping (NewtypeStruct shape) = true
expects_mapping _ = false

-- the format with no value
abbrev pub is_unit : VariantFormat → Bool
is_unit UnitFormat = true
is_unit _ = false
