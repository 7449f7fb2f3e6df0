-- What is sought among the attributes on a subject.
use Rattle.std.specs.Prelude.{ℕ, Bool, true, false, if◌then◌else◌, List, [], ◌∷◌, Option, Some, None}
use Rattle.std.specs.Option.{is_some, option_and_then, option_or}
use Rattle.facet_solver_shape.specs.Names.{Name}
use Rattle.facet_solver_shape.specs.declared.shape.DomMark.{DomMark}
use Rattle.facet_solver_shape.specs.declared.shape.DomMark.TheVariants as dom
use Rattle.facet_solver_types.specs.declared.attribute.meaning.Meaning.{Meaning}
use Rattle.facet_solver_types.specs.declared.attribute.meaning.Meaning.TheVariants.{Flatten, Default, Rename, RenameAll, RenameAllFields, Tag, Content, Untagged, Transparent, Skip, Proxy, With, Dom, MetadataContainer, Metadata, DenyUnknownFields, Opaque, Nothing}
use Rattle.facet_solver_types.specs.declared.case.Case.{Case}
use Rattle.facet_solver_types.specs.Attributes.{Attribute}
use Rattle.facet_solver_types.specs.AttributeTexts.{text_of}
use Rattle.facet_solver_types.specs.Cases.{named}
use Rattle.facet_solver_types.specs.Tokens.{Token}
use Rattle.facet_solver_types.specs.Values.{Value, text}

-- whether two meanings are the same, whatever the mark
unfoldable pub is_same : Meaning → Meaning → Bool
is_same Flatten Flatten = true
is_same Default Default = true
is_same Rename Rename = true
is_same RenameAll RenameAll = true
is_same RenameAllFields RenameAllFields = true
is_same Tag Tag = true
is_same Content Content = true
is_same Untagged Untagged = true
is_same Transparent Transparent = true
is_same Skip Skip = true
is_same Proxy Proxy = true
is_same With With = true
is_same (Dom one) (Dom other) = true
is_same MetadataContainer MetadataContainer = true
is_same Metadata Metadata = true
is_same DenyUnknownFields DenyUnknownFields = true
is_same Opaque Opaque = true
is_same Nothing Nothing = true
is_same one other = false

-- where the first attribute of a meaning stands
abbrev pub offset_of : Meaning → List Attribute → Option ℕ
offset_of meaning [] = None
offset_of meaning (attribute ∷ others) =
    if is_same meaning attribute.meaning then Some attribute.offset else offset_of meaning others

-- whether an attribute of a meaning is among some
abbrev pub is_said : Meaning → List Attribute → Bool
is_said meaning found = is_some (offset_of meaning found)

-- the text that a value is
abbrev pub text_by : Value → Option Token
text_by (text token) = Some token
text_by value = None

-- the text that an attribute of a meaning has
abbrev pub text_in : Meaning → Attribute → Option Token
text_in meaning attribute =
    if is_same meaning attribute.meaning then text_by attribute.value else None

-- the first text that an attribute of a meaning has
abbrev pub text_token : Meaning → List Attribute → Option Token
text_token meaning [] = None
text_token meaning (attribute ∷ others) =
    option_or (text_in meaning attribute) (text_token meaning others)

-- what that text says
abbrev pub text_said : Meaning → List Attribute → Option Name
text_said meaning found = option_and_then text_of (text_token meaning found)

-- the case that it names
abbrev pub case_said : Meaning → List Attribute → Option Case
case_said meaning found = option_and_then named (text_said meaning found)

-- the mark that a meaning is, or else another
abbrev pub mark_or : Meaning → DomMark → DomMark
mark_or (Dom mark) other = mark
mark_or meaning other = other

-- the first mark in a tree of elements, if there is one
abbrev pub mark_said : List Attribute → DomMark
mark_said [] = dom.None
mark_said (attribute ∷ others) = mark_or attribute.meaning (mark_said others)
