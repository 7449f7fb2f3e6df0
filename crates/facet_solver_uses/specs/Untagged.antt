-- The variants of an untagged enum that a value may be, by what the value is.
use Rattle.std.specs.Prelude.{◌≡◌, ◌==◌, ◌&&◌, ◌||◌, if◌then◌else◌, ℕ, Bool, true, false, List, Option, Some, None, ⊤, filter, length, not, string_bytes}
use Rattle.std.specs.List.Sorted.{IsNonDecreasingBy, IsStableByKey}
use Rattle.std.specs.List.{list_all}
use Rattle.std.specs.Option.{option_and_then, option_map_or}
use Rattle.std.specs.Ordering.{nat_cmp}
use Rattle.facet_solver.specs.Scalars.{is_bool, is_float, is_int, is_string, scalar_of_kind}
use Rattle.facet_solver.specs.Scores.{score_of}
use Rattle.facet_solver.specs.declared.ScalarType.{ScalarType}
use Rattle.facet_solver.specs.declared.Shape.{Shape}
use Rattle.facet_solver.specs.declared.ShapeKind.{ShapeKind}
use Rattle.facet_solver.specs.declared.ShapeKind.TheVariants.{Scalar, Struct as StructOf, Enum, List as ListKind, Array, Slice, Set, Map}
use Rattle.facet_solver.specs.declared.StructKind.{StructKind}
use Rattle.facet_solver.specs.declared.StructKind.TheVariants.{Unit, TupleStruct, Struct as NamedStruct, Tuple}
use Rattle.facet_solver.specs.declared.Variant.{Variant}
use Rattle.facet_solver_uses.specs.Reached.{newtype_field, reached_by_field}
use Rattle.facet_solver_uses.specs.ValueKinds.{is_list, is_list_of, is_null, is_number, is_object, is_scalar, is_text, is_truth_value, is_whole_number}
use Rattle.facet_solver_uses.specs.declared.untagged.ValueKind.{ValueKind}
use Rattle.facet_solver_uses.specs.declared.untagged.ValueKind.TheVariants.{WholeNumber, OtherNumber}

-- whether a value may be of a basic type; `()`, and one that is no number and no text, may be any
-- scalar
abbrev pub may_be_scalar : ValueKind → ScalarType → Bool
may_be_scalar value type =
    if is_bool type then is_truth_value value
    else (if is_int type then is_whole_number value
    else (if is_float type then is_number value
    else (if is_string type then is_text value
    else is_scalar value)))

-- whether none of the variants has a field
abbrev pub have_no_fields : List Variant → Bool
have_no_fields variants = list_all (λ v. length v.fields.items == 0) variants

-- whether a value may be of an enum: any scalar, and where a variant has a field any value
abbrev pub may_be_enum : ValueKind → List Variant → Bool
may_be_enum value variants = is_scalar value || not (have_no_fields variants)

-- whether a value may be so many fields, by how they are written: none, by name, or by position
abbrev pub may_be_fields : ValueKind → StructKind → ℕ → Bool
may_be_fields value Unit count = is_null value
may_be_fields value NamedStruct count = is_object value
may_be_fields value TupleStruct count = is_list_of count value
may_be_fields value Tuple count = is_list_of count value

-- whether a value may be of a kind: any may be of a struct without fields, and of a kind that does
-- not tell, as an option or an opaque pointer
abbrev pub may_be_kind : ValueKind → ShapeKind → Bool
may_be_kind value (Scalar type) = may_be_scalar value type
may_be_kind value (Enum variants) = may_be_enum value variants.items
may_be_kind value (StructOf Unit fields) = true
may_be_kind value (StructOf kind fields) = may_be_fields value kind (length fields.items)
may_be_kind value (Map key item) = is_object value
may_be_kind value (ListKind item) = is_list value
may_be_kind value (Array item) = is_list value
may_be_kind value (Slice item) = is_list value
may_be_kind value (Set item) = is_list value
may_be_kind value _ = true

-- whether a kind is that of a struct
abbrev pub is_struct : ShapeKind → Bool
is_struct (StructOf kind fields) = true
is_struct kind = false

-- whether a shape is a struct that is marked as a metadata container
abbrev pub is_container : Shape → Bool
is_container s = s.metadata_container && is_struct s.kind

-- whether a value may be of a shape that is reached: any may be of a metadata container
abbrev pub may_be_shape : ValueKind → Shape → Bool
may_be_shape value s = is_container s || may_be_kind value s.kind

-- whether a value may be of a newtype's field: any may be where no shape is reached
abbrev pub may_be_newtype : List Shape → ValueKind → ℕ → Bool
may_be_newtype shapes value field =
    option_map_or (may_be_shape value) (reached_by_field shapes field) true

-- whether a value may be a variant
abbrev pub may_be : List Shape → ValueKind → Variant → Bool
may_be shapes value v =
    option_map_or (may_be_newtype shapes value) (newtype_field v)
    (may_be_fields value v.kind (length v.fields.items))

-- the score of a scalar; any other shape has 1000
abbrev pub scalar_score : Shape → ℕ
scalar_score s =
    option_map_or (λ type. score_of (string_bytes s.type_identifier)) (scalar_of_kind s.kind) 1000

-- the score of a variant: that of the scalar that a newtype reaches, and 1000 for any other
abbrev pub variant_score : List Shape → Variant → ℕ
variant_score shapes v =
    option_map_or scalar_score (option_and_then (reached_by_field shapes) (newtype_field v)) 1000

-- the same variants, those of lower score first, and those of one score in their order
pub record IsByScore (shapes : List Shape) (variants found : List Variant) : Type 0 where
  pub rising : IsNonDecreasingBy (variant_score shapes) found
  pub stable : IsStableByKey (variant_score shapes) nat_cmp variants found

-- the same variants in the order that a value is read by: for a number by score, else unchanged
abbrev pub IsInOrder : List Shape → ValueKind → List Variant → List Variant → Type 0
IsInOrder shapes WholeNumber variants found = IsByScore shapes variants found
IsInOrder shapes OtherNumber variants found = IsByScore shapes variants found
IsInOrder shapes value variants found = found ≡ variants

-- where variants are declared, those that a value may be are found; else there is no answer
abbrev pub AreVariantsFor : List Shape → ValueKind → Option (List Variant)
    → Option (List Variant) → Type 0
AreVariantsFor shapes value (Some declared) (Some found) =
    IsInOrder shapes value (filter (may_be shapes value) declared) found
AreVariantsFor shapes value None None = ⊤
AreVariantsFor shapes value declared found = ⊥
