-- Whole numbers, and the ranges of the types of whole numbers.
use Rattle.std.specs.Prelude.{ℕ, ℤ, pos, negsuc, ◌-◌, ◌^◌, Bool, ◌&&◌, int_le, Option, Some, None}
use Rattle.facet_solver_shape.specs.declared.shape.ScalarType.{ScalarType}
use Rattle.facet_solver_shape.specs.declared.shape.ScalarType.TheVariants.{U8, U16, U32, U64, U128, USize, I8, I16, I32, I64, I128, ISize}
use Rattle.facet_solver_shape.specs.declared.shape.range.Whole.{Whole}
use Rattle.facet_solver_shape.specs.declared.shape.range.Whole.TheVariants.{Negative, Natural}
use Rattle.facet_solver_shape.specs.declared.shape.range.WholeRange.{WholeRange}

-- the number that is meant
abbrev pub whole_value : Whole → ℤ
whole_value (Negative number) = number
whole_value (Natural number) = pos number

-- whether a number is in a range
abbrev pub holds : WholeRange → ℤ → Bool
holds range z = int_le range.lowest z && int_le z (pos range.highest)

-- the numbers that are written in so many bits
abbrev pub unsigned : ℕ → WholeRange
unsigned bits = record { lowest = pos 0; highest = 2 ^ bits - 1 }

-- the numbers that are written in a sign and so many bits
abbrev pub signed : ℕ → WholeRange
signed bits = record { lowest = negsuc (2 ^ bits - 1); highest = 2 ^ bits - 1 }

-- the numbers of a type of whole numbers
abbrev pub whole_range : ScalarType → Option WholeRange
whole_range U8 = Some (unsigned 8)
whole_range U16 = Some (unsigned 16)
whole_range U32 = Some (unsigned 32)
whole_range U64 = Some (unsigned 64)
whole_range U128 = Some (unsigned 128)
whole_range USize = Some (unsigned 64)
whole_range I8 = Some (signed 7)
whole_range I16 = Some (signed 15)
whole_range I32 = Some (signed 31)
whole_range I64 = Some (signed 63)
whole_range I128 = Some (signed 127)
whole_range ISize = Some (signed 63)
whole_range _ = None
