-- Which values of JSON fit a shape.
use Rattle.std.specs.Prelude.{◌==◌, ◌&&◌, ◌||◌, ℕ, ℤ, Bool, true, false, List, Option, Some, None, is_some, length, not, slice_get, option_and_then}
use Rattle.std.specs.List.{list_any}
use Rattle.std.specs.Option.{option_map_or}
use Rattle.std.specs.Str.{chars}
use Rattle.serde_json.specs.Data.{Data}
use Rattle.serde_json.specs.Find.{as_array, as_bool, as_integer, as_null, as_number, as_object, as_str}
use Rattle.facet_solver.specs.declared.Field.{Field}
use Rattle.facet_solver.specs.declared.ScalarType.{ScalarType}
use Rattle.facet_solver.specs.declared.ScalarType.TheVariants.{Other as OtherScalar, Unit as UnitScalar, Bool as BoolScalar, Str, String as StringScalar, CowStr, Char}
use Rattle.facet_solver.specs.declared.Shape.{Shape}
use Rattle.facet_solver.specs.declared.ShapeKind.{ShapeKind}
use Rattle.facet_solver.specs.declared.ShapeKind.TheVariants.{Scalar, Struct, Option as OptionOf, Map, List as ListOf, Array, Slice, Set}
use Rattle.facet_solver.specs.declared.StructKind.{StructKind}
use Rattle.facet_solver.specs.declared.StructKind.TheVariants.{Unit as NoFields, Struct as ByName, Tuple, TupleStruct}
use Rattle.facet_solver.specs.build.Build.{Catalogue}
use Rattle.facet_solver.specs.EffectiveShapes.{effective}
use Rattle.facet_solver.specs.Metadata.{is_metadata_container}
use Rattle.facet_solver.specs.Pointers.{end_of}
use Rattle.facet_solver.specs.Ranges.{holds, whole_range}

-- the end of a shape: its effective shape, and from there pointers are followed
abbrev pub effective_end : Catalogue → ℕ → ℕ
effective_end cat id = end_of cat (effective cat id)

-- the inside of an option
abbrev pub inside_of_kind : ShapeKind → Option ℕ
inside_of_kind (OptionOf inside) = Some inside
inside_of_kind _ = None

-- the inside of the option at an index
abbrev pub inside_at : Catalogue → ℕ → Option ℕ
inside_at cat id = option_and_then (λ s. inside_of_kind s.kind) (slice_get cat id)

-- null
abbrev pub is_null : Data → Bool
is_null d = is_some (as_null d)

-- a list
abbrev pub is_array : Data → Bool
is_array d = is_some (as_array d)

-- an object
abbrev pub is_object : Data → Bool
is_object d = is_some (as_object d)

-- whether a whole number is one of a type of numbers: in its range, or any for a float
abbrev pub is_in_range : ScalarType → ℤ → Bool
is_in_range scalar z = option_map_or (λ range. holds range z) (whole_range scalar) true

-- the whole number that a value is
abbrev pub whole_number : Data → Option ℤ
whole_number d = option_and_then as_integer (as_number d)

-- whether a value fits a basic type; of the floats' types whole numbers are values
abbrev pub fits_scalar : ScalarType → Data → Bool
fits_scalar OtherScalar d = true
fits_scalar UnitScalar d = is_null d
fits_scalar BoolScalar d = is_some (as_bool d)
fits_scalar Str d = is_some (as_str d)
fits_scalar StringScalar d = is_some (as_str d)
fits_scalar CowStr d = is_some (as_str d)
fits_scalar Char d = option_map_or (λ text. length (chars text) == 1) (as_str d) false
fits_scalar number d = option_map_or (is_in_range number) (whole_number d) false

-- whether a value fits a struct
abbrev pub fits_struct : StructKind → Data → Bool
fits_struct NoFields d = is_null d
fits_struct ByName d = is_object d
fits_struct TupleStruct d = is_array d
fits_struct Tuple d = is_array d

-- whether a value fits a kind of shape: all do, but for the kinds that are named
abbrev pub fits_kind : ShapeKind → Data → Bool
fits_kind (Scalar scalar) d = fits_scalar scalar d
fits_kind (Struct kind fields) d = fits_struct kind d
fits_kind (Map key value) d = is_object d
fits_kind (ListOf item) d = is_array d
fits_kind (Array item) d = is_array d
fits_kind (Slice item) d = is_array d
fits_kind (Set item) d = is_array d
fits_kind _ d = true

-- whether a value fits a shape
abbrev pub fits_shape : Data → Shape → Bool
fits_shape d s = is_metadata_container s || fits_kind s.kind d

-- whether a value fits the shape at an index, which is an end
abbrev pub fits_end : Catalogue → ℕ → Data → Bool
fits_end cat end d = option_map_or (fits_shape d) (slice_get cat end) true

-- null fits an option, and so does what fits the end of its inside; else the end alone decides
abbrev pub fits_by : Catalogue → ℕ → Data → Option ℕ → Bool
fits_by cat end d None = fits_end cat end d
fits_by cat end d (Some inside) = is_null d || fits_end cat (effective_end cat inside) d

-- whether a value fits the shape at an index
abbrev pub fits : Catalogue → ℕ → Data → Bool
fits cat id d = fits_by cat (effective_end cat id) d (inside_at cat (effective_end cat id))
