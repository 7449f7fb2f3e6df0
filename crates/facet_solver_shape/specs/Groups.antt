-- The variants of an enum, grouped by format, and what a grouping keeps.
use Rattle.std.specs.Prelude.{ℕ, List, map, filter, ◌++◌, ◌==◌, Bool, true, false, Option, Some, None, slice_get, ◌≡◌, ◌⊎◌, [], ◌∷◌, ⊤}
use denote.Bor.{Bor}
use Rattle.std.specs.Option.{option_map, option_map_or, option_and_then}
use Rattle.std.specs.List.{filter_map, flat_map, AllByRecursion}
use Rattle.facet_solver_shape.specs.declared.shape.Shape.{Shape}
use Rattle.facet_solver_shape.specs.declared.shape.Variant.{Variant}
use Rattle.facet_solver_shape.specs.declared.shape.ShapeKind.{ShapeKind}
use Rattle.facet_solver_shape.specs.declared.shape.ShapeKind.TheVariants.{Enum}
use Rattle.facet_solver_shape.specs.declared.shape.ScalarType.{ScalarType}
use Rattle.facet_solver_shape.specs.declared.variants.format.VariantFormat.{VariantFormat}
use Rattle.facet_solver_shape.specs.declared.variants.format.VariantFormat.TheVariants.{NewtypeScalar, NewtypeTuple, NewtypeSequence, NewtypeOther, Tuple}
use Rattle.facet_solver_shape.specs.declared.variants.by_format.VariantsByFormat.{VariantsByFormat}
use Rattle.facet_solver_shape.specs.Scalars.{end_scalar, is_bool, is_int, is_float, is_string}
use Rattle.facet_solver_shape.specs.Formats.{format_of, expects_mapping, is_unit}
use Rattle.std.specs.List.Sorted.{IsPermutation}

-- a variant, and a number that is listed with it: a shape's index, or a tuple's length
abbrev pub Entry : Type 0
Entry = Variant × ℕ

-- the lists of variants
pub record Groups : Type 0 where
  pub unit_variants : List Variant
  pub tuple_variants : List Entry
  pub struct_variants : List Variant
  pub scalar_variants : List Entry
  pub bool_variants : List Entry
  pub int_variants : List Entry
  pub float_variants : List Entry
  pub string_variants : List Entry
  pub other_variants : List Variant

-- the shape that is listed with a scalar
abbrev pub scalar_shape : VariantFormat → Option ℕ
scalar_shape (NewtypeScalar shape) = Some shape
scalar_shape _ = None

-- the number of elements of a sequence, or 0 where any number will do
abbrev pub sequence_length : VariantFormat → Option ℕ
sequence_length (Tuple arity) = Some arity
sequence_length (NewtypeTuple shape arity) = Some arity
sequence_length (NewtypeSequence shape) = Some 0
sequence_length _ = None

-- the formats that are neither of a scalar nor of a sequence nor of a mapping
abbrev pub is_other : VariantFormat → Bool
is_other (NewtypeOther shape) = true
is_other _ = false

-- whether the shape that is listed with a variant ends at a scalar type that passes the test
abbrev pub ends_at : List Shape → (ScalarType → Bool) → Entry → Bool
ends_at shapes test entry = option_map_or test (end_scalar shapes entry.1) false

-- the variants whose format has a number to be listed with, in order
abbrev pub listed_by : List Shape → (VariantFormat → Option ℕ) → List Variant → List Entry
listed_by shapes number variants =
    filter_map (λ v. option_map (λ n. (v, n)) (number (format_of shapes v))) variants

-- the variants of an enum, grouped
abbrev pub groups_of : List Shape → List Variant → Groups
groups_of shapes variants =
    let scalars = listed_by shapes scalar_shape variants in
    record {
      unit_variants = filter (λ v. is_unit (format_of shapes v)) variants;
      tuple_variants = listed_by shapes sequence_length variants;
      struct_variants = filter (λ v. expects_mapping (format_of shapes v)) variants;
      scalar_variants = scalars;
      bool_variants = filter (ends_at shapes is_bool) scalars;
      int_variants = filter (ends_at shapes is_int) scalars;
      float_variants = filter (ends_at shapes is_float) scalars;
      string_variants = filter (ends_at shapes is_string) scalars;
      other_variants = filter (λ v. is_other (format_of shapes v)) variants;
    }

-- the lists of the first, each followed by that of the second
abbrev pub joined : Groups → Groups → Groups
joined a b = record {
  unit_variants = a.unit_variants ++ b.unit_variants;
  tuple_variants = a.tuple_variants ++ b.tuple_variants;
  struct_variants = a.struct_variants ++ b.struct_variants;
  scalar_variants = a.scalar_variants ++ b.scalar_variants;
  bool_variants = a.bool_variants ++ b.bool_variants;
  int_variants = a.int_variants ++ b.int_variants;
  float_variants = a.float_variants ++ b.float_variants;
  string_variants = a.string_variants ++ b.string_variants;
  other_variants = a.other_variants ++ b.other_variants;
}

-- the variants of an enum; none for another kind
abbrev pub variants_of_kind : ShapeKind → Option (List Variant)
variants_of_kind (Enum variants) = Some variants.items
variants_of_kind _ = None

-- the variants of the shape at an index, if it is an enum
abbrev pub variants_at : List Shape → ℕ → Option (List Variant)
variants_at shapes index = option_and_then (λ s. variants_of_kind s.kind) (slice_get shapes index)

-- those variants, grouped
abbrev pub groups_at : List Shape → ℕ → Option Groups
groups_at shapes index = option_map (groups_of shapes) (variants_at shapes index)

-- what a list of variants says, wherever they lie
abbrev pub variants_view : List (Bor Variant) → List Variant
variants_view variants = map (λ v. v.now) variants

-- what a list of entries says
abbrev pub entries_view : List (Bor Variant × ℕ) → List Entry
entries_view entries = map (λ e. (e.0.now, e.1)) entries

-- what the lists say
abbrev pub groups_view : VariantsByFormat → Groups
groups_view g = record {
  unit_variants = variants_view g.unit_variants.items;
  tuple_variants = entries_view g.tuple_variants.items;
  struct_variants = variants_view g.struct_variants.items;
  scalar_variants = entries_view g.scalar_variants.items;
  bool_variants = entries_view g.bool_variants.items;
  int_variants = entries_view g.int_variants.items;
  float_variants = entries_view g.float_variants.items;
  string_variants = entries_view g.string_variants.items;
  other_variants = variants_view g.other_variants.items;
}

-- the variants of entries
abbrev pub entry_variants : List Entry → List Variant
entry_variants entries = map (λ e. e.0) entries

-- the variants that are listed with this number
abbrev pub variants_with : ℕ → List Entry → List Variant
variants_with number entries = entry_variants (filter (λ e. e.1 == number) entries)

-- ys is xs with some elements left out
abbrev pub KeepsOrder : {X : Type 0} → List X → List X → Type 0
KeepsOrder xs [] = ⊤
KeepsOrder [] (y ∷ ys) = ⊥
KeepsOrder (x ∷ xs) (y ∷ ys) = ((x ≡ y) × KeepsOrder xs ys) ⊎ KeepsOrder xs (y ∷ ys)

-- each element stands once in one of the lists, and there in its order
pub record IsInOneOf {X : Type 0} (all : List X) (lists : List (List X)) : Type 0 where
  pub once : IsPermutation all (flat_map (λ xs. xs) lists)
  pub in_order : AllByRecursion (KeepsOrder all) lists

-- each variant stands in one of five lists, and each scalar in one of four or among the rest
pub record IsPartition (variants : List Variant) (g : Groups) : Type 0 where
  pub variants_in_one : IsInOneOf variants
      (g.unit_variants
      ∷ entry_variants g.scalar_variants
      ∷ entry_variants g.tuple_variants
      ∷ g.struct_variants
      ∷ g.other_variants
      ∷ [])
  pub rest : List Entry
  pub scalars_in_one : IsInOneOf g.scalar_variants
      (g.bool_variants ∷ g.int_variants ∷ g.float_variants ∷ g.string_variants ∷ rest ∷ [])
