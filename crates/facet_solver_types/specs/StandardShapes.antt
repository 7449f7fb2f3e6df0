-- The kinds of shapes that types of std have.
use Rattle.std.specs.Prelude.{false, List, [], ◌∷◌, ◌++◌, None, codes}
use Rattle.facet_solver_shape.specs.Names.{Name}
use Rattle.facet_solver_shape.specs.declared.shape.DomMark.TheVariants as marks
use Rattle.facet_solver_shape.specs.declared.shape.StructKind.TheVariants.{Struct, Tuple, Unit}
use Rattle.facet_solver_types.specs.declared.catalogue.standards.Member as code
use Rattle.facet_solver_types.specs.declared.standard.Standard.{Standard}
use Rattle.facet_solver_types.specs.declared.standard.Standard.TheVariants as standards
use Rattle.facet_solver_types.specs.Links.{place_in}
use Rattle.facet_solver_types.specs.ShapeViews.{Field, Kind, Variant, structure, enumeration}
use Rattle.facet_solver_types.specs.TypeIds.{first, second}

-- a member of a struct, or a variant with a value: its name, and the id of its type
pub record Member : Type 0 where
  pub name : Name
  pub id : Name

-- what is seen of it
abbrev pub member_view : code.Member → Member
member_view m = record { name = m.name.now; id = m.id.now }

-- a member of this name and type
abbrev pub named : Name → Name → Member
named name id = record { name = name; id = id }

-- the field that a member is
abbrev pub field_of : List Name → Member → Field
field_of ids m = record {
  name = m.name;
  rename = None;
  shape = place_in ids m.id;
  flattened = false;
  has_default = false;
  metadata = false;
  dom = marks.None;
}

-- a struct of one member
abbrev pub struct_of_one : List Name → Member → Kind
struct_of_one ids one = structure Struct (field_of ids one ∷ [])

-- a struct of two members
abbrev pub struct_of : List Name → Member → Member → Kind
struct_of ids one other = structure Struct (field_of ids one ∷ field_of ids other ∷ [])

-- the variant with a value that a member is
abbrev pub variant_of : List Name → Member → Variant
variant_of ids m =
    record { name = m.name; kind = Tuple; fields = field_of ids (named (codes "0") m.id) ∷ [] }

-- a variant without a value
abbrev pub unit : Name → Variant
unit name = record { name = name; kind = Unit; fields = [] }

-- an enum of two variants with a value, behind these
abbrev pub enum_of : List Name → List Variant → Member → Member → Kind
enum_of ids before one other =
    enumeration (before ++ variant_of ids one ∷ variant_of ids other ∷ [])

-- the kind of a type of std in which these types stand
abbrev pub standard_kind : List Name → Standard → List Name → Kind
standard_kind ids standards.Duration types =
    struct_of ids (named (codes "secs") (first types)) (named (codes "nanos") (second types))
standard_kind ids standards.SystemTime types =
    struct_of ids (named (codes "secs_since_epoch") (first types))
    (named (codes "nanos_since_epoch") (second types))
standard_kind ids standards.Range types =
    struct_of ids (named (codes "start") (first types)) (named (codes "end") (first types))
standard_kind ids standards.RangeFrom types =
    struct_of_one ids (named (codes "start") (first types))
standard_kind ids standards.RangeTo types =
    struct_of_one ids (named (codes "end") (first types))
standard_kind ids standards.Result types =
    enum_of ids [] (named (codes "Ok") (first types)) (named (codes "Err") (second types))
standard_kind ids standards.Bound types =
    enum_of ids (unit (codes "Unbounded") ∷ []) (named (codes "Included") (first types))
    (named (codes "Excluded") (first types))
standard_kind ids standards.OsString types =
    enum_of ids [] (named (codes "Unix") (first types)) (named (codes "Windows") (second types))
