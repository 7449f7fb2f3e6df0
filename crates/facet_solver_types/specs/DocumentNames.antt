-- The names that fields and variants go by in a document.
use Rattle.std.specs.Prelude.{if◌then◌else◌, List, Option, Some, None, Result, Ok, Err}
use Rattle.facet_solver_shape.specs.Names.{Name, name_eq}
use Rattle.facet_solver_types.specs.declared.attribute.meaning.Meaning.TheVariants.{Flatten, Rename}
use Rattle.facet_solver_types.specs.declared.attribute.refusal.Refusal.TheVariants.{NotAscii}
use Rattle.facet_solver_types.specs.declared.case.Case.{Case}
use Rattle.facet_solver_types.specs.declared.fault.Fault.{Fault}
use Rattle.facet_solver_types.specs.Attributes.{Attribute}
use Rattle.facet_solver_types.specs.Cases.{apply_to_field, apply_to_variant}
use Rattle.facet_solver_types.specs.Pieces.{and_then}
use Rattle.facet_solver_types.specs.SaidOn.{refused}
use Rattle.facet_solver_types.specs.Sought.{is_said, text_said}
use Rattle.facet_solver_types.specs.Tokens.{Token}

-- what a name is in a case, where it is something
abbrev pub cased : Token → Option Name → Result Name Fault
cased name None = Err (refused name.offset NotAscii)
cased name (Some other) = Ok other

-- the name of a field in a case, if there is a case
abbrev pub field_in : Option Case → Token → Result Name Fault
field_in None name = Ok name.text
field_in (Some case) name = cased name (apply_to_field case name.text)

-- the name of a variant in a case, if there is a case
abbrev pub variant_in : Option Case → Token → Result Name Fault
variant_in None name = Ok name.text
variant_in (Some case) name = cased name (apply_to_variant case name.text)

-- a name that is said, or else another
abbrev pub said_or : Option Name → Result Name Fault → Result Name Fault
said_or None other = other
said_or (Some name) other = Ok name

-- the name that a field goes by: its own where it is flattened
abbrev pub field_name : Option Case → List Attribute → Token → Result Name Fault
field_name case found name =
    if is_said Flatten found then Ok name.text
    else said_or (text_said Rename found) (field_in case name)

-- a name where it is another than the first
abbrev pub if_other : Name → Name → Option Name
if_other name other = if name_eq other name then None else Some other

-- the name that a field goes by, where it is another than its own
abbrev pub field_rename : Option Case → List Attribute → Token → Result (Option Name) Fault
field_rename case found name =
    and_then (field_name case found name) (λ other. Ok (if_other name.text other))

-- the name that a variant goes by
abbrev pub variant_name : Option Case → List Attribute → Token → Result Name Fault
variant_name case found name = said_or (text_said Rename found) (variant_in case name)
