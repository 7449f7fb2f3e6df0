-- The variants of enums, with what their attributes say.
use Rattle.std.specs.Prelude.{false, List, [], ◌∷◌, Result, Ok, Err}
use Rattle.std.specs.Option.{option_or}
use Rattle.facet_solver_shape.specs.Names.{Name}
use Rattle.facet_solver_shape.specs.declared.shape.StructKind.{StructKind}
use Rattle.facet_solver_shape.specs.declared.shape.StructKind.TheVariants as kind
use Rattle.facet_solver_types.specs.declared.attribute.meaning.Meaning.TheVariants.{RenameAll}
use Rattle.facet_solver_types.specs.declared.attribute.meaning.Subject.TheVariants as subject
use Rattle.facet_solver_types.specs.declared.declare.fields.AllFields.{AllFields}
use Rattle.facet_solver_types.specs.declared.declare.variants.AllVariants.{AllVariants}
use Rattle.facet_solver_types.specs.declared.fault.Fault.{Fault}
use Rattle.facet_solver_types.specs.Attributes.{Attribute}
use Rattle.facet_solver_types.specs.Declarations.{Body, Variant, named, tuple, unit}
use Rattle.facet_solver_types.specs.DocumentNames.{variant_name}
use Rattle.facet_solver_types.specs.Gatherings.{Gathering, all_gathered, faulty}
use Rattle.facet_solver_types.specs.ReadFields.{body_fields}
use Rattle.facet_solver_types.specs.SaidOn.{by_attributes, said_on}
use Rattle.facet_solver_types.specs.Sought.{case_said}
use Rattle.facet_solver_types.specs.Understood.{DeclaredField, DeclaredVariant}

-- the kind of a variant
abbrev pub variant_kind : Body → StructKind
variant_kind unit = kind.Unit
variant_kind (tuple fields) = kind.Tuple
variant_kind (named fields) = kind.Struct

-- what a variant says of all its fields: its own case wins over that of the enum
abbrev pub fields_of_variant : AllVariants → List Attribute → AllFields
fields_of_variant all found = record {
  case = option_or (case_said RenameAll found) all.field_case;
  has_default = false;
  only_needed = false;
  is_newtype = false;
}

-- a variant of a name in a document, with fields
abbrev pub named_variant : Variant → Name → List DeclaredField → DeclaredVariant
named_variant variant name fields = record {
  offset = variant.name.offset;
  written_name = variant.name.text;
  name = name;
  kind = variant_kind variant.body;
  fields = fields;
}

-- the same beside what is wrong with its fields, or else with its name
abbrev pub variant_with
    : Variant → Result Name Fault → Gathering DeclaredField → Gathering DeclaredVariant
variant_with variant (Ok name) fields = record {
  values = named_variant variant name fields.values ∷ [];
  faults = fields.faults;
}
variant_with variant (Err fault) fields = faulty (fault ∷ [])

-- a variant with attributes
abbrev pub read_variant : AllVariants → List Attribute → Variant → Gathering DeclaredVariant
read_variant all found variant =
    variant_with variant (variant_name all.case found variant.name)
    (body_fields (fields_of_variant all found) variant.body)

-- a variant, if it is not skipped
abbrev pub variant : AllVariants → Variant → Gathering DeclaredVariant
variant all one =
    by_attributes (said_on subject.Variant one.attributes) (λ found. read_variant all found one)

-- variants, but those that are skipped or have a fault
abbrev pub variants : AllVariants → List Variant → Gathering DeclaredVariant
variants all written = all_gathered (λ found. variant all) written
