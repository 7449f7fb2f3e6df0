-- Structs, with what their attributes say.
use Rattle.std.specs.Prelude.{ℕ, Bool, false, true, ◌||◌, if◌then◌else◌, List, [], ◌∷◌, Option, Some, None}
use Rattle.std.specs.List.{list_any}
use Rattle.std.specs.Option.{is_some}
use Rattle.facet_solver_shape.specs.declared.shape.StructKind.{StructKind}
use Rattle.facet_solver_shape.specs.declared.shape.StructKind.TheVariants as kind
use Rattle.facet_solver_types.specs.declared.attribute.meaning.Meaning.TheVariants.{Default, MetadataContainer, RenameAll, Transparent}
use Rattle.facet_solver_types.specs.declared.attribute.meaning.Misuse.TheVariants.{Misplaced}
use Rattle.facet_solver_types.specs.declared.attribute.meaning.Subject.{Subject}
use Rattle.facet_solver_types.specs.declared.attribute.meaning.Subject.TheVariants as subject
use Rattle.facet_solver_types.specs.declared.attribute.refusal.Refusal.TheVariants.{Flattens, Misused}
use Rattle.facet_solver_types.specs.declared.declare.fields.AllFields.{AllFields}
use Rattle.facet_solver_types.specs.declared.fault.Fault.{Fault}
use Rattle.facet_solver_types.specs.Attributes.{Attribute}
use Rattle.facet_solver_types.specs.Declarations.{Body, named, tuple, unit}
use Rattle.facet_solver_types.specs.Gatherings.{Gathering, or_fault}
use Rattle.facet_solver_types.specs.ReadFields.{body_fields}
use Rattle.facet_solver_types.specs.SaidOn.{refused}
use Rattle.facet_solver_types.specs.Sought.{case_said, is_said, offset_of}
use Rattle.facet_solver_types.specs.Stated.{Stated}
use Rattle.facet_solver_types.specs.Understood.{Declared, DeclaredField, struct}

-- what the attributes of a struct stand on
abbrev pub subject_of : Body → Subject
subject_of (named fields) = subject.NamedStruct
subject_of body = subject.OtherStruct

-- the kind of a struct
abbrev pub struct_kind : Body → StructKind
struct_kind unit = kind.Unit
struct_kind (tuple fields) = kind.TupleStruct
struct_kind (named fields) = kind.Struct

-- whether there is one of something
abbrev pub is_one : {A : Type 0} → List A → Bool
is_one [] = false
is_one (x ∷ []) = true
is_one (x ∷ xs) = false

-- whether it has one field, without a name
abbrev pub is_newtype : Body → Bool
is_newtype (tuple fields) = is_one fields
is_newtype body = false

-- what a struct says of all its fields
abbrev pub fields_of_struct : List Attribute → Body → AllFields
fields_of_struct found body = record {
  case = case_said RenameAll found;
  has_default = is_said Default found;
  only_needed = is_said Transparent found;
  is_newtype = is_newtype body;
}

-- whether one of some fields is flattened
abbrev pub has_flattened : List DeclaredField → Bool
has_flattened fields = list_any (λ field. is_some field.flattened) fields

-- what is wrong with `transparent` at an offset by the fields: it means the only one, which isn't
-- flattened
abbrev pub fault_at : ℕ → List DeclaredField → Option Fault
fault_at offset fields =
    if has_flattened fields then Some (refused offset Flattens)
    else (if is_one fields then None else Some (refused offset (Misused Misplaced)))

-- the same, where it stands if it does
abbrev pub fault_by : Option ℕ → List DeclaredField → Option Fault
fault_by None fields = None
fault_by (Some offset) fields = fault_at offset fields

-- the same, by attributes
abbrev pub transparent_fault : List Attribute → List DeclaredField → Option Fault
transparent_fault found fields = fault_by (offset_of Transparent found) fields

-- a struct that has these fields
abbrev pub struct_with : List Attribute → Body → List DeclaredField → Declared
struct_with found body fields =
    struct (struct_kind body) fields (is_newtype body || is_said Transparent found)
    (is_said Transparent found) (is_said MetadataContainer found)

-- the same beside what is wrong with the fields, or else with `transparent`
abbrev pub struct_of : List Attribute → Body → Gathering DeclaredField → Stated
struct_of found body fields = record {
  declared = struct_with found body fields.values;
  faults = or_fault fields.faults (transparent_fault found fields.values);
}

-- a struct
abbrev pub read_struct : List Attribute → Body → Stated
read_struct found body = struct_of found body (body_fields (fields_of_struct found body) body)
