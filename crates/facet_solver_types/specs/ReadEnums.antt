-- Enums, with what their attributes say.
use Rattle.std.specs.Prelude.{List}
use Rattle.facet_solver_types.specs.declared.attribute.meaning.Meaning.TheVariants.{Content, RenameAll, RenameAllFields, Tag, Untagged}
use Rattle.facet_solver_types.specs.declared.declare.variants.AllVariants.{AllVariants}
use Rattle.facet_solver_types.specs.Attributes.{Attribute}
use Rattle.facet_solver_types.specs.Declarations.{Variant}
use Rattle.facet_solver_types.specs.Gatherings.{Gathering}
use Rattle.facet_solver_types.specs.ReadVariants.{variants}
use Rattle.facet_solver_types.specs.Sought.{case_said, is_said, text_said}
use Rattle.facet_solver_types.specs.Stated.{Stated}
use Rattle.facet_solver_types.specs.Understood.{DeclaredVariant, Tagging, enum}

-- what an enum says of all its variants
abbrev pub variants_of_enum : List Attribute → AllVariants
variants_of_enum found = record {
  case = case_said RenameAll found;
  field_case = case_said RenameAllFields found;
}

-- how the variants of an enum are told
abbrev pub tagging_of : List Attribute → Tagging
tagging_of found = record {
  tag = text_said Tag found;
  content = text_said Content found;
  untagged = is_said Untagged found;
}

-- an enum with these variants, beside what is wrong with them
abbrev pub enum_of : List Attribute → Gathering DeclaredVariant → Stated
enum_of found variants = record {
  declared = enum variants.values (tagging_of found);
  faults = variants.faults;
}

-- an enum
abbrev pub read_enum : List Attribute → List Variant → Stated
read_enum found written = enum_of found (variants (variants_of_enum found) written)
