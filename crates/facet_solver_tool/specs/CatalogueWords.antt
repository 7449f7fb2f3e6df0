-- The words of a catalogue's text.
use Rattle.std.specs.Prelude.{Option, Some, None, codes}
use Rattle.facet_solver_shape.specs.Names.{Name}
use Rattle.facet_solver_shape.specs.declared.shape.DomMark.{DomMark}
use Rattle.facet_solver_shape.specs.declared.shape.DomMark.TheVariants as marks
use Rattle.facet_solver_shape.specs.declared.shape.ScalarType.{ScalarType}
use Rattle.facet_solver_shape.specs.declared.shape.ScalarType.TheVariants as scalars
use Rattle.facet_solver_shape.specs.declared.shape.ShapeKind.{ShapeKind}
use Rattle.facet_solver_shape.specs.declared.shape.ShapeKind.TheVariants as kinds
use Rattle.facet_solver_shape.specs.declared.shape.StructKind.{StructKind}
use Rattle.facet_solver_shape.specs.declared.shape.StructKind.TheVariants as structs

-- what a shape is made of
abbrev pub shape_kind : ShapeKind → Name
shape_kind (kinds.Scalar scalar) = codes "scalar"
shape_kind (kinds.Struct kind fields) = codes "struct"
shape_kind (kinds.Enum variants) = codes "enum"
shape_kind (kinds.Option of) = codes "option"
shape_kind (kinds.Pointer of) = codes "pointer"
shape_kind (kinds.List of) = codes "list"
shape_kind (kinds.Array of) = codes "array"
shape_kind (kinds.Slice of) = codes "slice"
shape_kind (kinds.Set of) = codes "set"
shape_kind (kinds.Map key value) = codes "map"
shape_kind kinds.DynamicValue = codes "dynamic"
shape_kind kinds.Other = codes "other"

-- how fields are written; by name is not said
abbrev pub struct_kind : StructKind → Option Name
struct_kind structs.Unit = Some (codes "unit")
struct_kind structs.TupleStruct = Some (codes "tuple_struct")
struct_kind structs.Struct = None
struct_kind structs.Tuple = Some (codes "tuple")

-- the mark of a field, where it has one
abbrev pub dom_mark : DomMark → Option Name
dom_mark marks.None = None
dom_mark marks.Attribute = Some (codes "attribute")
dom_mark marks.Element = Some (codes "element")
dom_mark marks.Text = Some (codes "text")
dom_mark marks.Tag = Some (codes "tag")
dom_mark marks.Elements = Some (codes "elements")

-- a basic type
abbrev pub scalar_type : ScalarType → Name
scalar_type scalars.Unit = codes "unit"
scalar_type scalars.Bool = codes "bool"
scalar_type scalars.Char = codes "char"
scalar_type scalars.Str = codes "str"
scalar_type scalars.String = codes "string"
scalar_type scalars.CowStr = codes "cowstr"
scalar_type scalars.F32 = codes "f32"
scalar_type scalars.F64 = codes "f64"
scalar_type scalars.U8 = codes "u8"
scalar_type scalars.U16 = codes "u16"
scalar_type scalars.U32 = codes "u32"
scalar_type scalars.U64 = codes "u64"
scalar_type scalars.U128 = codes "u128"
scalar_type scalars.USize = codes "usize"
scalar_type scalars.I8 = codes "i8"
scalar_type scalars.I16 = codes "i16"
scalar_type scalars.I32 = codes "i32"
scalar_type scalars.I64 = codes "i64"
scalar_type scalars.I128 = codes "i128"
scalar_type scalars.ISize = codes "isize"
scalar_type scalars.Other = codes "other"
