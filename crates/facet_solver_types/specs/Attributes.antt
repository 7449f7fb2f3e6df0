-- The attributes of serde and facet, with what they mean.
use Rattle.std.specs.Prelude.{ℕ, not, ◌&&◌, if◌then◌else◌, Option, Some, None, codes, Result, Ok, Err}
use Rattle.facet_solver_shape.specs.Names.{Name, name_eq}
use Rattle.facet_solver_shape.specs.declared.shape.DomMark.{DomMark}
use Rattle.facet_solver_types.specs.declared.attribute.Attribute as declared
use Rattle.facet_solver_types.specs.declared.attribute.meaning.Meaning.{Meaning}
use Rattle.facet_solver_types.specs.declared.attribute.meaning.Meaning.TheVariants.{Dom}
use Rattle.facet_solver_types.specs.declared.attribute.meaning.Misuse.{Misuse}
use Rattle.facet_solver_types.specs.declared.attribute.meaning.Misuse.TheVariants.{Unknown, Misplaced, Unsupported}
use Rattle.facet_solver_types.specs.declared.attribute.meaning.Subject.{Subject}
use Rattle.facet_solver_types.specs.declared.attribute.meaning.Subject.TheVariants.{NamedField}
use Rattle.facet_solver_types.specs.declared.fault.Fault.{Fault}
use Rattle.facet_solver_types.specs.declared.fault.Fault.TheVariants.{At}
use Rattle.facet_solver_types.specs.declared.attribute.refusal.Refusal.TheVariants as refusal
use Rattle.facet_solver_types.specs.declared.problem.Problem.TheVariants as problem
use Rattle.facet_solver_types.specs.Entries.{Entry, EntryValue, outside}
use Rattle.facet_solver_types.specs.Meanings.{dom_mark, means}
use Rattle.facet_solver_types.specs.Pieces.{and_then}
use Rattle.facet_solver_types.specs.Tokens.{Token}
use Rattle.facet_solver_types.specs.Values.{Value, form_of, value_of, value_view}

-- an attribute: where it stands, what it means, and its value
pub record Attribute : Type 0 where
  pub offset : ℕ
  pub meaning : Meaning
  pub value : Value

-- what is seen of an attribute
abbrev pub attribute_view : declared.Attribute → Attribute
attribute_view attribute =
    record {
      offset = attribute.offset;
      meaning = attribute.meaning;
      value = value_view attribute.value;
    }

-- where words stand: the one before `::` if there is one
abbrev pub place_with : Option Token → Token → ℕ
place_with None name = name.offset
place_with (Some qualifier) name = qualifier.offset

-- where an entry stands
abbrev pub place_of : Entry → ℕ
place_of entry = place_with entry.qualifier entry.name

-- a mark in a tree of elements stands on fields with names
abbrev pub mark_on : Subject → Option DomMark → Result Meaning Misuse
mark_on subject None = Err Unknown
mark_on NamedField (Some mark) = Ok (Dom mark)
mark_on subject (Some mark) = Err Misplaced

-- what an attribute means that is written behind `xml::` or `html::`
abbrev pub mark_of : Subject → Name → Name → Result Meaning Misuse
mark_of subject qualifier name =
    if not (name_eq qualifier (codes "xml")) && not (name_eq qualifier (codes "html"))
    then Err Unknown else mark_on subject (dom_mark name)

-- what words mean on a subject
abbrev pub meaning_with : Subject → Option Token → Token → Result Meaning Misuse
meaning_with subject None name = means subject name.text
meaning_with subject (Some qualifier) name = mark_of subject qualifier.text name.text

-- what an entry of this value means on a subject
abbrev pub meaning_by : Subject → EntryValue → Entry → Result Meaning Misuse
meaning_by subject outside entry = Err Unsupported
meaning_by subject value entry = meaning_with subject entry.qualifier entry.name

-- what an entry means on a subject
abbrev pub meaning_of : Subject → Entry → Result Meaning Misuse
meaning_of subject entry = meaning_by subject entry.value entry

-- an attribute that takes its value, or the fault
abbrev pub with_value : Meaning → ℕ → Option Value → Result Attribute Fault
with_value meaning offset None =
    Err (At offset (problem.Attribute (refusal.Takes (form_of meaning))))
with_value meaning offset (Some value) =
    Ok (record { offset = offset; meaning = meaning; value = value })

-- an attribute of that meaning
abbrev pub with_meaning : Meaning → Entry → Result Attribute Fault
with_meaning meaning entry =
    and_then (value_of (form_of meaning) entry.value) (with_value meaning (place_of entry))

-- an attribute of that meaning, if it is no misuse
abbrev pub if_meant : Result Meaning Misuse → Entry → Result Attribute Fault
if_meant (Ok meaning) entry = with_meaning meaning entry
if_meant (Err misuse) entry = Err (At (place_of entry) (problem.Attribute (refusal.Misused misuse)))

-- the attribute that an entry is on a subject
abbrev pub attribute_of : Subject → Entry → Result Attribute Fault
attribute_of subject entry = if_meant (meaning_of subject entry) entry
