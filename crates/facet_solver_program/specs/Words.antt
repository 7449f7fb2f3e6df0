-- Words of the input, each for one value of a list.
use Rattle.std.specs.Prelude.{Option, Some, None, codes, if◌then◌else◌, List, [], ◌∷◌}
use Rattle.facet_solver_program.specs.declared.decode.word.Builder.{Builder}
use Rattle.facet_solver_program.specs.declared.decode.word.Builder.TheVariants as builders
use Rattle.facet_solver.specs.Names.{Name, name_eq}
use Rattle.facet_solver.specs.declared.StructKind.{StructKind}
use Rattle.facet_solver.specs.declared.StructKind.TheVariants as structs
use Rattle.facet_solver.specs.declared.DomMark.{DomMark}
use Rattle.facet_solver.specs.declared.DomMark.TheVariants as marks
use Rattle.facet_solver.specs.declared.ScalarType.{ScalarType}
use Rattle.facet_solver.specs.declared.ScalarType.TheVariants as scalars

-- the value beside a word in a list
abbrev pub said_by : {A : Type 0} → List (Name × A) → Name → Option A
said_by [] word = None
said_by (entry ∷ rest) word = if name_eq word entry.0 then Some entry.1 else said_by rest word

-- the way of writing fields that a word says
abbrev pub struct_kind : Name → Option StructKind
struct_kind =
    said_by ((codes "unit", structs.Unit) ∷ (codes "tuple_struct", structs.TupleStruct)
    ∷ (codes "struct", structs.Struct) ∷ (codes "tuple", structs.Tuple) ∷ [])

-- the mark of a field that a word says
abbrev pub dom_mark : Name → Option DomMark
dom_mark =
    said_by ((codes "attribute", marks.Attribute) ∷ (codes "element", marks.Element)
    ∷ (codes "text", marks.Text) ∷ (codes "tag", marks.Tag)
    ∷ (codes "elements", marks.Elements) ∷ [])

-- the basic type that a word says
abbrev pub scalar_type : Name → Option ScalarType
scalar_type =
    said_by ((codes "unit", scalars.Unit) ∷ (codes "bool", scalars.Bool)
    ∷ (codes "char", scalars.Char) ∷ (codes "str", scalars.Str)
    ∷ (codes "string", scalars.String) ∷ (codes "cowstr", scalars.CowStr)
    ∷ (codes "f32", scalars.F32) ∷ (codes "f64", scalars.F64)
    ∷ (codes "u8", scalars.U8) ∷ (codes "u16", scalars.U16) ∷ (codes "u32", scalars.U32)
    ∷ (codes "u64", scalars.U64) ∷ (codes "u128", scalars.U128)
    ∷ (codes "usize", scalars.USize)
    ∷ (codes "i8", scalars.I8) ∷ (codes "i16", scalars.I16) ∷ (codes "i32", scalars.I32)
    ∷ (codes "i64", scalars.I64) ∷ (codes "i128", scalars.I128)
    ∷ (codes "isize", scalars.ISize) ∷ (codes "other", scalars.Other) ∷ [])

-- the builder that a word says
abbrev pub named_builder : Name → Option Builder
named_builder =
    said_by ((codes "flattened", builders.Flattened) ∷ (codes "auto", builders.Auto)
    ∷ (codes "external", builders.External) ∷ [])
