-- What attributes mean on a subject: the definitions, row by row.
use Rattle.std.proofs.Common.{◌≡◌, ℕ, List, [], ◌∷◌, ◌++◌, map, Result, Ok, Err, codes, refl}
use Rattle.std.specs.Str.{chars}
use lib.Utf8.{encode}
use Rattle.facet_solver_types.specs.declared.attribute.meaning.Meaning.{Meaning}
use Rattle.facet_solver_types.specs.declared.attribute.meaning.Meaning.TheVariants as means
use Rattle.facet_solver_types.specs.declared.attribute.meaning.Misuse.TheVariants as misuse
use Rattle.facet_solver_types.specs.declared.attribute.meaning.Subject.{Subject}
use Rattle.facet_solver_types.specs.declared.attribute.meaning.Subject.TheVariants as on
use Rattle.facet_solver_types.specs.declared.attribute.refusal.Refusal.TheVariants as refusal
use Rattle.facet_solver_types.specs.declared.attribute.value.Form.TheVariants as form
use Rattle.facet_solver_types.specs.declared.fault.Fault.{Fault}
use Rattle.facet_solver_types.specs.declared.fault.Fault.TheVariants.{At}
use Rattle.facet_solver_types.specs.declared.problem.Expected.TheVariants as expected
use Rattle.facet_solver_types.specs.declared.problem.Problem.TheVariants as problem
use Rattle.facet_solver_shape.specs.declared.shape.DomMark.TheVariants as dom
use Rattle.facet_solver_types.specs.AttributeEntries.{entries_from, parts_from}
use Rattle.facet_solver_types.specs.AttributeLists.{attributes}
use Rattle.facet_solver_types.specs.Attributes.{Attribute}
use Rattle.facet_solver_types.specs.Characters.{blank_len, continues_name}
use Rattle.facet_solver_types.specs.FirstParts.{first_part, first_token, gap_len}
use Rattle.facet_solver_types.specs.Gatherings.{Gathering}
use Rattle.facet_solver_types.specs.Keywords.{is_keyword}
use Rattle.facet_solver_types.specs.MarkTokens.{mark}
use Rattle.facet_solver_types.specs.Pieces.{and_then, pieces_from}
use Rattle.facet_solver_types.specs.Prefixes.{begins_attribute}
use Rattle.facet_solver_types.specs.Runs.{nest_after, run_from}
use Rattle.facet_solver_types.specs.SameBracket.{same_bracket}
use Rattle.facet_solver_types.specs.Texts.{begins_character, character, opening_of, text_token}
use Rattle.facet_solver_types.specs.Tokens.{tokens, tokens_from}

-- something, or the first of some faults
abbrev unless_faulty : {A : Type 0} → List Fault → A → Result A Fault
unless_faulty [] value = Ok value
unless_faulty (fault ∷ others) value = Err fault

-- what attributes mean, or the first fault of these
abbrev meant : Gathering Attribute → Result (List Meaning) Fault
meant found = unless_faulty found.faults (map (λ a. a.meaning) found.values)

-- what the attributes of a text mean on a subject
abbrev meanings : Subject → List ℕ → Result (List Meaning) Fault
meanings subject text = and_then (tokens text) (λ ts. meant (attributes subject ts))

-- what is wrong with the attributes of a text on a subject, and what the others mean
abbrev all : Subject → List ℕ → Result (List Fault × List Meaning) Fault
all subject text =
    and_then (tokens text) (λ ts.
    let found = attributes subject ts in
    Ok (found.faults, map (λ a. a.meaning) found.values))

-- on a field with a name
pub field_rows :
    (meanings on.NamedField (codes "#[serde(flatten)]")
    ≡ Ok (means.Flatten ∷ []))
    × (meanings on.NamedField (codes "#[serde(default)]")
    ≡ Ok (means.Default ∷ []))
    × (meanings on.NamedField (codes "#[serde(default = \"f\")]")
    ≡ Ok (means.Default ∷ []))
    × (meanings on.NamedField (codes "#[serde(rename = \"x\")]")
    ≡ Ok (means.Rename ∷ []))
    × (meanings on.NamedField (codes "#[serde(rename(deserialize = \"x\"))]")
    ≡ Ok (means.Rename ∷ []))
    × (meanings on.NamedField (codes "#[serde(rename(serialize = \"y\", deserialize = \"x\"))]")
    ≡ Ok (means.Rename ∷ []))
    × (meanings on.NamedField (codes "#[serde(skip)]")
    ≡ Ok (means.Skip ∷ []))
    × (meanings on.NamedField (codes "#[serde(skip_deserializing)]")
    ≡ Ok (means.Skip ∷ []))
    × (meanings on.NamedField (codes "#[facet(proxy = String)]")
    ≡ Ok (means.Proxy ∷ []))
    × (meanings on.NamedField (codes "#[facet(metadata = span)]")
    ≡ Ok (means.Metadata ∷ []))
unfolding tokens_from first_part first_token gap_len blank_len continues_name is_keyword mark opening_of text_token begins_character character same_bracket entries_from begins_attribute run_from nest_after pieces_from chars encode
field_rows = (refl, refl, refl, refl, refl, refl, refl, refl, refl, refl)

-- marks of a tree of elements
pub mark_rows :
    (meanings on.NamedField (codes "#[facet(attribute)]")
    ≡ Ok (means.Dom dom.Attribute ∷ []))
    × (meanings on.NamedField (codes "#[facet(xml::element)]")
    ≡ Ok (means.Dom dom.Element ∷ []))
    × (meanings on.NamedField (codes "#[facet(html::text)]")
    ≡ Ok (means.Dom dom.Text ∷ []))
    × (meanings on.NamedField (codes "#[facet(tag)]")
    ≡ Ok (means.Dom dom.Tag ∷ []))
    × (meanings on.NamedField (codes "#[facet(xml::elements)]")
    ≡ Ok (means.Dom dom.Elements ∷ []))
unfolding tokens_from first_part first_token gap_len blank_len continues_name is_keyword mark opening_of text_token begins_character character same_bracket entries_from begins_attribute run_from nest_after pieces_from chars encode
mark_rows = (refl, refl, refl, refl, refl)

-- on a struct
pub struct_rows :
    (meanings on.NamedStruct (codes "#[serde(default)]")
    ≡ Ok (means.Default ∷ []))
    × (meanings on.NamedStruct (codes "#[facet(metadata_container)]")
    ≡ Ok (means.MetadataContainer ∷ []))
    × (meanings on.NamedStruct (codes "#[serde(rename_all = \"snake_case\")]")
    ≡ Ok (means.RenameAll ∷ []))
    × (meanings on.OtherStruct (codes "#[serde(transparent)]")
    ≡ Ok (means.Transparent ∷ []))
    × (meanings on.OtherStruct (codes "#[serde(from = \"T\")]")
    ≡ Ok (means.Proxy ∷ []))
    × (meanings on.NamedStruct (codes "#[serde(try_from = \"T\")]")
    ≡ Ok (means.Proxy ∷ []))
    × (meanings on.NamedStruct (codes "#[serde(deny_unknown_fields)]")
    ≡ Ok (means.DenyUnknownFields ∷ []))
    × (meanings on.NamedStruct (codes "#[serde(rename = \"x\")]")
    ≡ Ok (means.Nothing ∷ []))
    × (meanings on.NamedStruct (codes "#[serde(tag = \"t\")]")
    ≡ Ok (means.Nothing ∷ []))
unfolding tokens_from first_part first_token gap_len blank_len continues_name is_keyword mark opening_of text_token begins_character character same_bracket entries_from begins_attribute run_from nest_after pieces_from chars encode
struct_rows = (refl, refl, refl, refl, refl, refl, refl, refl, refl)

-- on an enum
pub enum_rows :
    (meanings on.Enum (codes "#[serde(tag = \"t\", content = \"c\")]")
    ≡ Ok (means.Tag ∷ means.Content ∷ []))
    × (meanings on.Enum (codes "#[serde(untagged)]")
    ≡ Ok (means.Untagged ∷ []))
    × (meanings on.Enum (codes "#[serde(rename_all = \"kebab-case\")]")
    ≡ Ok (means.RenameAll ∷ []))
    × (meanings on.Enum (codes "#[serde(rename_all_fields = \"camelCase\")]")
    ≡ Ok (means.RenameAllFields ∷ []))
unfolding tokens_from first_part first_token gap_len blank_len continues_name is_keyword mark opening_of text_token begins_character character same_bracket entries_from begins_attribute run_from nest_after pieces_from chars encode
enum_rows = (refl, refl, refl, refl)

-- on a variant, on a field of a tuple, and on the one field of a tuple struct
pub other_rows :
    (meanings on.Variant (codes "#[serde(rename = \"x\")]")
    ≡ Ok (means.Rename ∷ []))
    × (meanings on.Variant (codes "#[serde(rename_all = \"lowercase\")]")
    ≡ Ok (means.RenameAll ∷ []))
    × (meanings on.Variant (codes "#[serde(skip)]")
    ≡ Ok (means.Skip ∷ []))
    × (meanings on.TupleField (codes "#[facet(proxy = String)]")
    ≡ Ok (means.Proxy ∷ []))
    × (meanings on.TupleField (codes "#[serde(default = \"f\", skip, skip_deserializing)]")
    ≡ Ok (means.Default ∷ means.Skip ∷ means.Skip ∷ []))
    × (meanings on.NewtypeField (codes "#[serde(default, skip)] #[facet(proxy = String)]")
    ≡ Ok (means.Nothing ∷ means.Nothing ∷ means.Proxy ∷ []))
unfolding tokens_from first_part first_token gap_len blank_len continues_name is_keyword mark opening_of text_token begins_character character same_bracket entries_from begins_attribute run_from nest_after pieces_from chars encode
other_rows = (refl, refl, refl, refl, refl, refl)

-- what is passed over, and what is neither serde's nor facet's
pub passed_rows :
    (meanings on.NamedField (codes "#[serde(skip_serializing_if = \"f\", borrow)]")
    ≡ Ok (means.Nothing ∷ means.Nothing ∷ []))
    × (meanings on.NamedField (codes "#[facet(sensitive)]")
    ≡ Ok (means.Nothing ∷ []))
    × (meanings on.Enum (codes "#[derive(Debug)]")
    ≡ Ok ([]))
    × (meanings on.NamedField (codes "#[serde(default)] #[facet(flatten)]")
    ≡ Ok (means.Default ∷ means.Flatten ∷ []))
    × (meanings on.NamedField (codes "#[serde(rename = \"x\")] #[facet(rename = r\"x\")]")
    ≡ Ok (means.Rename ∷ means.Rename ∷ []))
unfolding tokens_from first_part first_token gap_len blank_len continues_name is_keyword mark opening_of text_token begins_character character same_bracket entries_from begins_attribute run_from nest_after pieces_from chars encode
passed_rows = (refl, refl, refl, refl, refl)

-- what a `cfg_attr` holds counts as if it stood alone, and its condition is not asked
pub cfg_attr_rows :
    (meanings on.NamedField (codes "#[cfg_attr(x, serde(default))]")
    ≡ Ok (means.Default ∷ []))
    × (meanings on.NamedField (codes "#[cfg_attr(all(a, b = \"c\"), serde(rename = \"x\"), y, facet(default))] #[serde(skip)]")
    ≡ Ok (means.Rename ∷ means.Default ∷ means.Skip ∷ []))
    × (meanings on.Enum (codes "#[cfg_attr(a, cfg_attr(b, serde(tag = \"t\")), serde(content = \"c\"),)]")
    ≡ Ok (means.Tag ∷ means.Content ∷ []))
    × (meanings on.Enum (codes "#[cfg_attr(x, derive(Debug), y)]")
    ≡ Ok ([]))
    × (meanings on.Enum (codes "#[cfg_attr(serde(untagged))] #[cfg_attr] #[cfg_attr()]")
    ≡ Ok ([]))
    × (meanings on.NamedField (codes "#[cfg_attr(x, serde(alias = \"y\"))]")
    ≡ Err (At 20 (problem.Attribute (refusal.Misused misuse.Unsupported))))
    × (meanings on.NamedField (codes "#[cfg_attr(x, serde)]")
    ≡ Err (At 19 (problem.Expected expected.AttributeList)))
    × (meanings on.NamedField (codes "#[cfg_attr(x, serde(rename = \"y\"), facet(rename = \"z\"))]")
    ≡ Err (At 41 (problem.Attribute refusal.Clashes)))
unfolding tokens_from first_part first_token gap_len blank_len continues_name is_keyword mark opening_of text_token begins_character character same_bracket entries_from parts_from begins_attribute run_from nest_after pieces_from chars encode
cfg_attr_rows = (refl, refl, refl, refl, refl, refl, refl, refl)

-- attributes that mean nothing there
pub refused_rows :
    (meanings on.NamedField (codes "#[serde(alias = \"x\")]")
    ≡ Err (At 8 (problem.Attribute (refusal.Misused misuse.Unsupported))))
    × (meanings on.Variant (codes "#[serde(other)]")
    ≡ Err (At 8 (problem.Attribute (refusal.Misused misuse.Unsupported))))
    × (meanings on.NamedField (codes "#[serde(default, fooled)]")
    ≡ Err (At 17 (problem.Attribute (refusal.Misused misuse.Unknown))))
    × (meanings on.Enum (codes "#[serde(flatten)]")
    ≡ Err (At 8 (problem.Attribute (refusal.Misused misuse.Misplaced))))
    × (meanings on.OtherStruct (codes "#[serde(tag = \"t\")]")
    ≡ Err (At 8 (problem.Attribute (refusal.Misused misuse.Misplaced))))
    × (meanings on.Variant (codes "#[serde(untagged)]")
    ≡ Err (At 8 (problem.Attribute (refusal.Misused misuse.Unsupported))))
    × (meanings on.NamedField (codes "#[serde(untagged)]")
    ≡ Err (At 8 (problem.Attribute (refusal.Misused misuse.Misplaced))))
    × (meanings on.Variant (codes "#[facet(xml::text)]")
    ≡ Err (At 8 (problem.Attribute (refusal.Misused misuse.Misplaced))))
    × (meanings on.NamedField (codes "#[serde_as(as = \"x\")]")
    ≡ Err (At 2 (problem.Attribute (refusal.Misused misuse.Unsupported))))
    × (meanings on.NamedField (codes "#[flatten]")
    ≡ Err (At 2 (problem.Attribute (refusal.Misused misuse.Unsupported))))
unfolding tokens_from first_part first_token gap_len blank_len continues_name is_keyword mark opening_of text_token begins_character character same_bracket entries_from begins_attribute run_from nest_after pieces_from chars encode
refused_rows = (refl, refl, refl, refl, refl, refl, refl, refl, refl, refl)

-- values that are not taken
pub value_rows :
    (meanings on.NamedField (codes "#[serde(rename)]")
    ≡ Err (At 8 (problem.Attribute (refusal.Takes form.Names))))
    × (meanings on.NamedField (codes "#[serde(skip, default =, flatten)]")
    ≡ Err (At 14 (problem.Attribute (refusal.Takes form.Default))))
    × (meanings on.NamedField (codes "#[facet(metadata =)]")
    ≡ Err (At 8 (problem.Attribute (refusal.Takes form.Value))))
    × (meanings on.NamedField (codes "#[serde(flatten = \"x\")]")
    ≡ Err (At 8 (problem.Attribute (refusal.Takes form.Nothing))))
    × (meanings on.Enum (codes "#[serde(tag = 3)]")
    ≡ Err (At 8 (problem.Attribute (refusal.Takes form.Text))))
    × (meanings on.NamedField (codes "#[serde(rename = b\"x\")]")
    ≡ Err (At 8 (problem.Attribute (refusal.Takes form.Names))))
    × (meanings on.NamedField (codes "#[serde(rename(other = \"x\"))]")
    ≡ Err (At 8 (problem.Attribute (refusal.Takes form.Names))))
    × (meanings on.Enum (codes "#[serde(rename_all = \"Snake\")]")
    ≡ Err (At 21 (problem.Attribute refusal.NoCase)))
    × (meanings on.NamedField (codes "#[serde(rename = \"\\q\")]")
    ≡ Err (At 17 (problem.Attribute refusal.NoText)))
unfolding tokens_from first_part first_token gap_len blank_len continues_name is_keyword mark opening_of text_token begins_character character same_bracket entries_from begins_attribute run_from nest_after pieces_from chars encode
value_rows = (refl, refl, refl, refl, refl, refl, refl, refl, refl)

-- attributes that exclude each other
pub clash_rows :
    (meanings on.Enum (codes "#[serde(untagged, tag = \"t\")]")
    ≡ Err (At 18 (problem.Attribute refusal.Clashes)))
    × (meanings on.Enum (codes "#[serde(content = \"c\")]")
    ≡ Err (At 8 (problem.Attribute refusal.NoTag)))
    × (meanings on.NamedField (codes "#[serde(flatten, rename = \"x\")]")
    ≡ Ok (means.Flatten ∷ means.Rename ∷ []))
    × (meanings on.NamedField (codes "#[facet(text, element)]")
    ≡ Err (At 14 (problem.Attribute refusal.Clashes)))
    × (meanings on.NamedField (codes "#[serde(rename = \"x\", rename = \"y\")]")
    ≡ Err (At 22 (problem.Attribute refusal.Clashes)))
    × (meanings on.OtherStruct (codes "#[serde(transparent, from = \"T\")]")
    ≡ Err (At 21 (problem.Attribute refusal.Clashes)))
unfolding tokens_from first_part first_token gap_len blank_len continues_name is_keyword mark opening_of text_token begins_character character same_bracket entries_from begins_attribute run_from nest_after pieces_from chars encode
clash_rows = (refl, refl, refl, refl, refl, refl)

-- of two names for reading, both must be one; a name for writing is passed over
pub twice_rows :
    (meanings on.NamedField (codes "#[serde(rename(serialize = \"x\"), rename(deserialize = \"y\"))]")
    ≡ Ok (means.Rename ∷ means.Rename ∷ []))
    × (meanings on.NamedField (codes "#[serde(rename = \"y\", rename(serialize = \"x\"))]")
    ≡ Ok (means.Rename ∷ means.Rename ∷ []))
    × (meanings on.Variant (codes "#[serde(rename(serialize = \"x\"), rename(serialize = \"y\"))]")
    ≡ Ok (means.Rename ∷ means.Rename ∷ []))
    × (meanings on.Variant (codes "#[serde(rename(serialize = \"x\"), rename = \"\")]")
    ≡ Ok (means.Rename ∷ means.Rename ∷ []))
    × (meanings on.Enum (codes "#[serde(rename_all(serialize = \"lowercase\"))] "
    ++ codes "#[serde(rename_all = \"UPPERCASE\")]")
    ≡ Ok (means.RenameAll ∷ means.RenameAll ∷ []))
    × (meanings on.Variant (codes "#[serde(rename = \"\", rename = \"y\")]")
    ≡ Err (At 21 (problem.Attribute refusal.Clashes)))
    × (meanings on.Variant (codes "#[serde(rename(deserialize = \"x\"), rename = \"y\")]")
    ≡ Err (At 35 (problem.Attribute refusal.Clashes)))
    × (meanings on.NamedField (codes "#[serde(rename = \"x\", rename(serialize = \"y\"), "
    ++ codes "rename = \"z\")]")
    ≡ Err (At 47 (problem.Attribute refusal.Clashes)))
unfolding tokens_from first_part first_token gap_len blank_len continues_name is_keyword mark opening_of text_token begins_character character same_bracket entries_from begins_attribute run_from nest_after pieces_from chars encode
twice_rows = (refl, refl, refl, refl, refl, refl, refl, refl)

-- what stands where something else is expected
pub syntax_rows :
    (meanings on.NamedField (codes "#[serde]")
    ≡ Err (At 7 (problem.Expected expected.AttributeList)))
    × (meanings on.NamedField (codes "#[serde = \"x\"]")
    ≡ Err (At 8 (problem.Expected expected.AttributeList)))
    × (meanings on.NamedField (codes "#[serde(= 3)]")
    ≡ Err (At 8 (problem.Expected expected.Attribute)))
    × (meanings on.NamedField (codes "#[serde(rename \"x\")]")
    ≡ Err (At 15 (problem.Expected expected.AttributeEnd)))
    × (meanings on.NamedField (codes "#[serde(skip,, flatten)]")
    ≡ Err (At 13 (problem.Expected expected.Attribute)))
unfolding tokens_from first_part first_token gap_len blank_len continues_name is_keyword mark opening_of text_token begins_character character same_bracket entries_from begins_attribute run_from nest_after pieces_from chars encode
syntax_rows = (refl, refl, refl, refl, refl)

-- each fault is told; what excludes others, or asks for one beside it, does so among those without
pub fault_rows :
    (all on.NamedField (codes "#[serde(fooled, default, alias = \"x\", flatten = 1)]")
    ≡ Ok (
      At 8 (problem.Attribute (refusal.Misused misuse.Unknown))
          ∷ At 25 (problem.Attribute (refusal.Misused misuse.Unsupported))
          ∷ At 38 (problem.Attribute (refusal.Takes form.Nothing)) ∷ [],
      means.Default ∷ [],
    ))
    × (all on.Enum (codes "#[serde(tag = 3, content = \"c\", untagged)]")
    ≡ Ok (
      At 8 (problem.Attribute (refusal.Takes form.Text))
          ∷ At 32 (problem.Attribute refusal.Clashes) ∷ [],
      means.Content ∷ [],
    ))
    × (all on.NamedField (codes "#[serde(skip,, fooled)]")
    ≡ Ok (At 13 (problem.Expected expected.Attribute) ∷ [], []))
unfolding tokens_from first_part first_token gap_len blank_len continues_name is_keyword mark opening_of text_token begins_character character same_bracket entries_from begins_attribute run_from nest_after pieces_from chars encode
fault_rows = (refl, refl, refl)
