-- Basic types, and their kinds.
use Rattle.std.specs.Prelude.{Option, Some, None, ℕ, List, Bool, true, false}
use Rattle.facet_solver_shape.specs.declared.shape.ShapeKind.{ShapeKind}
use Rattle.facet_solver_shape.specs.declared.shape.ShapeKind.TheVariants.{Scalar}
use Rattle.facet_solver_shape.specs.declared.shape.ScalarType.{ScalarType}
use Rattle.std.specs.Option.{option_and_then}
use Rattle.facet_solver_shape.specs.declared.shape.Shape.{Shape}
use Rattle.facet_solver_shape.specs.declared.shape.ScalarType.TheVariants.{Bool as BoolType, Char, Str, String, CowStr, F32, F64, U8, U16, U32, U64, U128, USize, I8, I16, I32, I64, I128, ISize}
use Rattle.facet_solver_shape.specs.Pointers.{end_kind}

-- the basic type of a scalar
abbrev pub scalar_of_kind : ShapeKind → Option ScalarType
scalar_of_kind (Scalar scalar) = Some scalar
scalar_of_kind _ = None

-- the truth values
abbrev pub is_bool : ScalarType → Bool
is_bool BoolType = true
is_bool _ = false

-- the whole numbers
abbrev pub is_int : ScalarType → Bool
is_int U8 = true
is_int U16 = true
is_int U32 = true
is_int U64 = true
is_int U128 = true
is_int USize = true
is_int I8 = true
is_int I16 = true
is_int I32 = true
is_int I64 = true
is_int I128 = true
is_int ISize = true
is_int _ = false

-- the floats
abbrev pub is_float : ScalarType → Bool
is_float F32 = true
is_float F64 = true
is_float _ = false

-- the texts, of one character too
abbrev pub is_string : ScalarType → Bool
is_string String = true
is_string CowStr = true
is_string Str = true
is_string Char = true
is_string _ = false

-- the scalar type at the end of a shape, if it is a scalar
unfoldable pub end_scalar : List Shape → ℕ → Option ScalarType
end_scalar shapes index = option_and_then scalar_of_kind (end_kind shapes index)
