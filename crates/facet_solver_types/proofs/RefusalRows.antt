-- What is told of attributes that mean nothing where they stand: the definitions, row by row.
use Rattle.std.proofs.Common.{◌≡◌, ℕ, List, [], ◌∷◌, ◌++◌, None, Ok, Err, codes, refl}
use Rattle.std.specs.Str.{chars}
use lib.Utf8.{encode}
use Rattle.facet_solver_types.specs.declared.attribute.meaning.Misuse.TheVariants.{Unsupported}
use Rattle.facet_solver_types.specs.declared.attribute.meaning.Subject.{Subject}
use Rattle.facet_solver_types.specs.declared.attribute.meaning.Subject.TheVariants as on
use Rattle.facet_solver_types.specs.declared.fault.Fault.{Fault}
use Rattle.facet_solver_types.specs.declared.fault.Fault.TheVariants.{At, Catalogue, OutOfMemory}
use Rattle.facet_solver_types.specs.AttributeEntries.{entries_from, parts_from}
use Rattle.facet_solver_types.specs.Characters.{blank_len, continues_name}
use Rattle.facet_solver_types.specs.Errors.{met_at, problem_text}
use Rattle.facet_solver_types.specs.FirstParts.{first_part, first_token, gap_len}
use Rattle.facet_solver_types.specs.Helps.{help_for}
use Rattle.facet_solver_types.specs.Keywords.{is_keyword}
use Rattle.facet_solver_types.specs.MarkTokens.{mark}
use Rattle.facet_solver_types.specs.Pieces.{pieces_from}
use Rattle.facet_solver_types.specs.Prefixes.{begins_attribute}
use Rattle.facet_solver_types.specs.Refusals.{misused_text}
use Rattle.facet_solver_types.specs.Runs.{nest_after, run_from}
use Rattle.facet_solver_types.specs.SaidOn.{said_on}
use Rattle.facet_solver_types.specs.SameBracket.{same_bracket}
use Rattle.facet_solver_types.specs.Sought.{is_same}
use Rattle.facet_solver_types.specs.Texts.{begins_character, character, opening_of, text_token}
use Rattle.facet_solver_types.specs.Tokens.{Read, tokens, tokens_from}

-- what is told of a fault of a text, without its place; nothing where there is none
abbrev told_of : List ℕ → Fault → List ℕ
told_of text (At offset problem) = problem_text problem (met_at offset text)
told_of text (Catalogue refusal) = []
told_of text OutOfMemory = []

-- the same of the first of some
abbrev first_told : List ℕ → List Fault → List ℕ
first_told text [] = []
first_told text (fault ∷ others) = told_of text fault

-- the same of the tokens of a text on a subject
abbrev told_by : Subject → List ℕ → Read → List ℕ
told_by subject text (Ok tokens) = first_told text (said_on subject tokens).faults
told_by subject text (Err fault) = told_of text fault

-- what is told of the attributes of a text on a subject
abbrev told : Subject → List ℕ → List ℕ
told subject text = told_by subject text (tokens text)

-- what cannot be said in serde's and facet's attributes
pub help_rows :
    (told on.NamedField (codes "#[serde(default, alias = \"x\")]")
    ≡ codes "'alias' cannot be said: write the one name that documents have")
    × (told on.Variant (codes "#[serde(other)]")
    ≡ codes "'other' cannot be said: write each variant")
    × (told on.Variant (codes "#[serde(with = \"m\")]")
    ≡ codes "'with' cannot be said: write the type that it is read as, as in proxy = String")
    × (told on.Variant (codes "#[serde(deserialize_with = \"f\")]")
    ≡ codes "'deserialize_with' cannot be said: "
    ++ codes "write the type that it is read as, as in proxy = String")
    × (told on.NamedStruct (codes "#[serde(remote = \"S\")]")
    ≡ codes "'remote' cannot be said: declare the type itself")
    × (told on.Enum (codes "#[serde(field_identifier)]")
    ≡ codes "'field_identifier' cannot be said: write an enum of unit variants")
    × (told on.Enum (codes "#[serde(variant_identifier)]")
    ≡ codes "'variant_identifier' cannot be said: write an enum of unit variants")
    × (told on.Enum (codes "#[facet(is_numeric)]")
    ≡ codes "'is_numeric' cannot be said: write each variant by its name")
    × (told on.NamedStruct (codes "#[facet(opaque)]")
    ≡ codes "'opaque' cannot be said: write proxy = T beside it")
unfolding tokens_from first_part first_token gap_len blank_len continues_name is_keyword mark opening_of text_token begins_character character same_bracket entries_from begins_attribute run_from nest_after pieces_from is_same chars encode
help_rows = (refl, refl, refl, refl, refl, refl, refl, refl, refl)

-- what stands outside of these
pub outside_rows :
    (told on.NamedField (codes "#[serde_as(as = \"x\")]")
    ≡ codes "'serde_as' cannot be said: write the type that it is read as, as in proxy = String")
    × (told on.NamedField (codes "#[flatten]")
    ≡ codes "'flatten' cannot be said: write it in #[serde(..)]")
    × (told on.Enum (codes "#[serde(tag = \"t\")] #[untagged]")
    ≡ codes "'untagged' cannot be said: write it in #[serde(..)], on an enum")
    × (told on.Enum (codes "#[cfg_attr(x, untagged)]")
    ≡ codes "'untagged' cannot be said: write it in #[serde(..)], on an enum")
unfolding tokens_from first_part first_token gap_len blank_len continues_name is_keyword mark opening_of text_token begins_character character same_bracket entries_from parts_from begins_attribute run_from nest_after pieces_from is_same chars encode
outside_rows = (refl, refl, refl, refl)

-- a raw word is told as it is written, and helped as without `r#`
pub raw_rows :
    (told on.Variant (codes "#[serde(r#other)]")
    ≡ codes "'r#other' cannot be said: write each variant")
    × (told on.NamedField (codes "#[r#flatten]")
    ≡ codes "'r#flatten' cannot be said: write it in #[serde(..)]")
unfolding tokens_from first_part first_token gap_len blank_len continues_name is_keyword mark opening_of text_token begins_character character same_bracket entries_from begins_attribute run_from nest_after pieces_from is_same chars encode
raw_rows = (refl, refl)

-- what nothing helps
pub other_rows :
    (help_for (codes "default") ≡ None)
    × (help_for (codes "r#") ≡ None)
    × (help_for (codes "") ≡ None)
    × (misused_text Unsupported (codes "default") ≡ codes "'default' cannot be said")
    × (told on.NamedField (codes "#[serde(fooled)]")
    ≡ codes "'fooled' is no attribute of serde or facet")
    × (told on.Enum (codes "#[serde(flatten)]")
    ≡ codes "'flatten' means nothing here")
    × (told on.Variant (codes "#[facet(xml::text)]")
    ≡ codes "'xml' means nothing here")
    × (told on.NamedField (codes "#[serde(default)]") ≡ [])
unfolding tokens_from first_part first_token gap_len blank_len continues_name is_keyword mark opening_of text_token begins_character character same_bracket entries_from begins_attribute run_from nest_after pieces_from is_same chars encode
other_rows = (refl, refl, refl, refl, refl, refl, refl, refl)
