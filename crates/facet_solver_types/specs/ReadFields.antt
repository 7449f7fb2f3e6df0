-- The fields of structs and variants, with what their attributes say.
use Rattle.std.specs.Prelude.{ℕ, Bool, true, false, not, ◌==◌, ◌&&◌, ◌||◌, if◌then◌else◌, length, List, [], ◌∷◌, Option, Some, None, Result, Ok}
use Rattle.std.specs.Fmt.{decimal}
use Rattle.facet_solver_shape.specs.declared.shape.DomMark.TheVariants as dom
use Rattle.facet_solver_types.specs.declared.attribute.meaning.Meaning.TheVariants.{Default, Flatten, Metadata}
use Rattle.facet_solver_types.specs.declared.attribute.meaning.Subject.{Subject}
use Rattle.facet_solver_types.specs.declared.attribute.meaning.Subject.TheVariants.{NamedField, NewtypeField, TupleField}
use Rattle.facet_solver_types.specs.declared.declare.fields.AllFields.{AllFields}
use Rattle.facet_solver_types.specs.declared.fault.Fault.{Fault}
use Rattle.facet_solver_types.specs.Attributes.{Attribute}
use Rattle.facet_solver_types.specs.Declarations.{Body, Field, named, tuple, unit}
use Rattle.facet_solver_types.specs.DocumentNames.{field_rename}
use Rattle.facet_solver_types.specs.Gatherings.{Gathering, all_gathered, nothing, told}
use Rattle.facet_solver_types.specs.Passages.{Passage, place}
use Rattle.facet_solver_types.specs.Pieces.{and_then}
use Rattle.facet_solver_types.specs.Proxies.{proxies}
use Rattle.facet_solver_types.specs.SaidOn.{by_attributes, said_on}
use Rattle.facet_solver_types.specs.Sought.{is_said, mark_said, offset_of}
use Rattle.facet_solver_types.specs.Tokens.{Token}
use Rattle.facet_solver_types.specs.Understood.{DeclaredField, Proxy}

-- what the attributes of a field stand on, by its name if it has one
abbrev pub subject_by : AllFields → Option Token → Subject
subject_by all (Some name) = NamedField
subject_by all None = if all.is_newtype then NewtypeField else TupleField

-- what the attributes of a field stand on
abbrev pub subject_of : AllFields → Field → Subject
subject_of all one = subject_by all one.name

-- whether a field is left out: it need not be there where one field counts
abbrev pub is_left_out : AllFields → List Attribute → Bool
is_left_out all found = all.only_needed && is_said Default found && not (is_said Flatten found)

-- a field with a name
abbrev pub named_field : AllFields → List Attribute → Token → Passage → Result DeclaredField Fault
named_field all found name written =
    and_then (proxies found) (λ proxies.
    and_then (field_rename all.case found name) (λ rename.
    Ok (record {
      offset = name.offset;
      name = name.text;
      rename = rename;
      flattened = offset_of Flatten found;
      has_default = all.has_default || is_said Default found;
      metadata = is_said Metadata found;
      dom = mark_said found;
      written = written;
      proxies = proxies;
    })))

-- a field of a tuple, by its number
abbrev pub numbered_field : ℕ → Passage → List Proxy → DeclaredField
numbered_field number written proxies = record {
  offset = place written;
  name = decimal number;
  rename = None;
  flattened = None;
  has_default = false;
  metadata = false;
  dom = dom.None;
  written = written;
  proxies = proxies;
}

-- the same, with its attributes
abbrev pub tuple_field : ℕ → List Attribute → Passage → Result DeclaredField Fault
tuple_field number found written =
    and_then (proxies found) (λ proxies. Ok (numbered_field number written proxies))

-- a field by its name if it has one, or else by its number
abbrev pub field_by
    : Option Token → AllFields → ℕ → List Attribute → Passage → Result DeclaredField Fault
field_by (Some name) all number found written = named_field all found name written
field_by None all number found written = tuple_field number found written

-- a field with attributes
abbrev pub read_field : AllFields → ℕ → List Attribute → Field → Result DeclaredField Fault
read_field all number found one = field_by one.name all number found one.written

-- a field that is read so, if it is not left out
abbrev pub kept_field : AllFields → ℕ → List Attribute → Field → Gathering DeclaredField
kept_field all number found one =
    if is_left_out all found then nothing else told (read_field all number found one)

-- a field behind so many others, if it is not left out
abbrev pub field : AllFields → ℕ → Field → Gathering DeclaredField
field all number one =
    by_attributes (said_on (subject_of all one) one.attributes)
    (λ found. kept_field all number found one)

-- fields, but those that are left out or have a fault
abbrev pub fields : AllFields → List Field → Gathering DeclaredField
fields all written = all_gathered (λ found. field all (length found)) written

-- a field of a tuple as the one behind another, that is left out
abbrev pub as_second : DeclaredField → DeclaredField
as_second field = record field { name = decimal 1 }

-- Fields of a tuple, where others are left out. A lone one is numbered as the second: the lone
-- field 0 of a variant stands for the whole.
abbrev pub beside_others : List DeclaredField → List DeclaredField
beside_others [] = []
beside_others (field ∷ []) = as_second field ∷ []
beside_others (first ∷ second ∷ others) = first ∷ second ∷ others

-- the fields of a tuple that has one, or others beside it
abbrev pub tuple_by : Bool → Gathering DeclaredField → Gathering DeclaredField
tuple_by true found = found
tuple_by false found = record { values = beside_others found.values; faults = found.faults }

-- the fields of a tuple, but those that are left out or have a fault
abbrev pub tuple_fields : AllFields → List Field → Gathering DeclaredField
tuple_fields all written = tuple_by (length written == 1) (fields all written)

-- the fields in brackets, if there are brackets
abbrev pub body_fields : AllFields → Body → Gathering DeclaredField
body_fields all unit = nothing
body_fields all (tuple written) = tuple_fields all written
body_fields all (named written) = fields all written
