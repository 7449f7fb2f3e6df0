-- What declarations are with their attributes: the definitions, row by row.
use Rattle.std.proofs.Common.{◌≡◌, ℕ, Bool, true, false, List, [], ◌∷◌, ◌++◌, length, map, Option, Some, None, Result, Ok, Err, codes, refl}
use Rattle.std.specs.Fmt.{decimal}
use Rattle.std.specs.List.{flat_map}
use Rattle.std.specs.Str.{chars}
use lib.Utf8.{encode}
use Rattle.facet_solver_shape.specs.Names.{Name}
use Rattle.facet_solver_shape.specs.declared.shape.DomMark.{DomMark}
use Rattle.facet_solver_shape.specs.declared.shape.DomMark.TheVariants as dom
use Rattle.facet_solver_shape.specs.declared.shape.StructKind.{StructKind}
use Rattle.facet_solver_shape.specs.declared.shape.StructKind.TheVariants as kind
use Rattle.facet_solver_types.specs.declared.attribute.meaning.Misuse.TheVariants as misuse
use Rattle.facet_solver_types.specs.declared.attribute.refusal.Refusal.TheVariants as refusal
use Rattle.facet_solver_types.specs.declared.attribute.value.Form.TheVariants as form
use Rattle.facet_solver_types.specs.declared.fault.Fault.{Fault}
use Rattle.facet_solver_types.specs.declared.fault.Fault.TheVariants.{At}
use Rattle.facet_solver_types.specs.declared.problem.Problem.TheVariants as problem
use Rattle.facet_solver_types.specs.AttributeEntries.{entries_from}
use Rattle.facet_solver_types.specs.Bodies.{variant}
use Rattle.facet_solver_types.specs.Characters.{blank_len, continues_name}
use Rattle.facet_solver_types.specs.Fields.{named_field}
use Rattle.facet_solver_types.specs.FirstParts.{first_part, first_token, gap_len}
use Rattle.facet_solver_types.specs.Items.{items, items_from, piece}
use Rattle.facet_solver_types.specs.Keywords.{is_keyword}
use Rattle.facet_solver_types.specs.MarkTokens.{mark}
use Rattle.facet_solver_types.specs.NamedItems.{alias_of, enum_of, struct_of}
use Rattle.facet_solver_types.specs.Pieces.{and_then, pieces_from}
use Rattle.facet_solver_types.specs.Prefixes.{attributes_from, begins_attribute}
use Rattle.facet_solver_types.specs.ReadItems.{declarations}
use Rattle.facet_solver_types.specs.Runs.{nest_after, run_from}
use Rattle.facet_solver_types.specs.SameBracket.{same_bracket}
use Rattle.facet_solver_types.specs.Sought.{is_same}
use Rattle.facet_solver_types.specs.Starts.{begins_statement, item_len, named_call_len, path_from, path_step, qualified_start, qualifiers_len, run_and_end_len, start_of, visible_len, whole_call_len}
use Rattle.facet_solver_types.specs.Texts.{begins_character, character, opening_of, text_token}
use Rattle.facet_solver_types.specs.Tokens.{tokens, tokens_from}
use Rattle.facet_solver_types.specs.Understood.{Declaration, Declared, DeclaredField, DeclaredVariant, Proxy, alias, elsewhere, enum, home, proxied, struct, unread}
use Rattle.facet_solver_types.specs.WrittenTypes.{front_len}

-- the declarations of a text, with their faults
abbrev declared : List ℕ → Result (List Declaration) Fault
declared text =
    and_then (tokens text) (λ ts.
    and_then (items (record { tokens = ts; end = length text })) (λ found. Ok (declarations found)))

-- all faults of the declarations of a text
abbrev faults : List ℕ → Result (List Fault) Fault
faults text = and_then (declared text) (λ found. Ok (flat_map (λ d. d.faults) found))

-- declarations, or the first of some faults
abbrev unless_faulty : List Fault → List Declaration → Result (List Declaration) Fault
unless_faulty [] found = Ok found
unless_faulty (fault ∷ others) found = Err fault

-- the declarations of a text, or their first fault
abbrev read : List ℕ → Result (List Declaration) Fault
read text =
    and_then (declared text) (λ found. unless_faulty (flat_map (λ d. d.faults) found) found)

-- what is seen of declarations
abbrev seen : {A : Type 0} → (Declaration → List A) → List ℕ → Result (List A) Fault
seen see text = and_then (read text) (λ found. Ok (flat_map see found))

-- the fields of a struct
abbrev fields_in : Declared → List DeclaredField
fields_in (struct kind fields transparent says_so container) = fields
fields_in other = []

-- what is seen of the fields of structs
abbrev fields : {A : Type 0} → (DeclaredField → A) → List ℕ → Result (List A) Fault
fields see = seen (λ d. map see (fields_in d.declared))

-- their names, and the other names that they go by
abbrev names : List ℕ → Result (List (Name × Option Name)) Fault
names = fields (λ f. (f.name, f.rename))

-- the other names alone
abbrev others : List ℕ → Result (List (Option Name)) Fault
others = fields (λ f. f.rename)

-- where `flatten` stands, whether they may be absent, whether they hold metadata, and their marks
abbrev flags : List ℕ → Result (List (Option ℕ × Bool × Bool × DomMark)) Fault
flags = fields (λ f. (f.flattened, f.has_default, f.metadata, f.dom))

-- the variants of an enum
abbrev variants_in : Declared → List DeclaredVariant
variants_in (enum variants tagging) = variants
variants_in other = []

-- their names as written and in a document, their kinds, and the other names of their fields
abbrev variants : List ℕ → Result (List (Name × Name × StructKind × List (Option Name))) Fault
variants =
    seen (λ d. map (λ v. (v.written_name, v.name, v.kind, map (λ f. f.rename) v.fields))
    (variants_in d.declared))

-- the kind of a struct, how many fields it has, whether it stands for one, whether it says so, and
-- whether it is for metadata
abbrev struct_seen : Declared → List (StructKind × ℕ × Bool × Bool × Bool)
struct_seen (struct kind fields transparent says_so container) =
    (kind, length fields, transparent, says_so, container) ∷ []
struct_seen other = []

-- the same of all structs
abbrev structs : List ℕ → Result (List (StructKind × ℕ × Bool × Bool × Bool)) Fault
structs = seen (λ d. struct_seen d.declared)

-- the tag, the content, and whether there is no tag
abbrev tagging_seen : Declared → List (Option Name × Option Name × Bool)
tagging_seen (enum variants tagging) = (tagging.tag, tagging.content, tagging.untagged) ∷ []
tagging_seen other = []

-- the same of all enums
abbrev taggings : List ℕ → Result (List (Option Name × Option Name × Bool)) Fault
taggings = seen (λ d. tagging_seen d.declared)

-- the proxies of a declaration, or of its fields
abbrev proxies_in : Declared → List Proxy
proxies_in (proxied proxies) = proxies
proxies_in other = flat_map (λ f. f.proxies) (fields_in other)

-- where they stand, their tokens with where these stand, and where they end
abbrev proxies : List ℕ → Result (List (ℕ × List (ℕ × Name) × ℕ)) Fault
proxies =
    seen (λ d. map (λ p. (p.offset, map (λ t. (t.offset, t.text)) p.said.tokens, p.said.end))
    (proxies_in d.declared))

-- a word for what is declared
abbrev kind_of : Declared → Name
kind_of (struct kind fields transparent says_so container) = codes "struct"
kind_of (enum variants tagging) = codes "enum"
kind_of (proxied proxies) = codes "proxied"
kind_of (alias passage) = codes "alias"
kind_of home = codes "home"
kind_of elsewhere = codes "elsewhere"
kind_of unread = codes "unread"

-- the names of declarations, with that word
abbrev kinds : List ℕ → Result (List (Name × Name)) Fault
kinds = seen (λ d. (d.name.text, kind_of d.declared) ∷ [])

-- whether they deny unknown members
abbrev strict : List ℕ → Result (List Bool) Fault
strict = seen (λ d. d.denies_unknown ∷ [])

-- names of fields: `rename` where it differs, else the case of all, but not of flattened ones
pub name_rows :
    (names (codes "struct S { a: u8, b: u8 }")
    ≡ Ok ((codes "a", None) ∷ (codes "b", None) ∷ []))
    × (names (codes "struct S(u8, u8);")
    ≡ Ok ((decimal 0, None) ∷ (decimal 1, None) ∷ []))
    × (names (codes "struct S;")
    ≡ Ok [])
    × (names (codes "struct S { #[serde(rename = \"x\")] a: u8, #[serde(rename = \"b\")] b: u8 }")
    ≡ Ok ((codes "a", Some (codes "x")) ∷ (codes "b", None) ∷ []))
    × (names (codes "struct S { #[serde(rename(serialize = \"y\"))] a: u8 }")
    ≡ Ok ((codes "a", None) ∷ []))
    × (names (codes "struct S { "
    ++ codes "#[serde(rename(serialize = \"y\"), rename(deserialize = \"x\"))] a: u8 }")
    ≡ Ok ((codes "a", Some (codes "x")) ∷ []))
    × (names (codes "#[serde(rename_all = \"camelCase\")] struct S { a_b: u8, c: u8 }")
    ≡ Ok ((codes "a_b", Some (codes "aB")) ∷ (codes "c", None) ∷ []))
    × (names (codes "#[serde(rename_all = \"UPPERCASE\")] "
    ++ codes "struct S { #[serde(rename = \"x\")] a: u8 }")
    ≡ Ok ((codes "a", Some (codes "x")) ∷ []))
    × (names (codes "#[serde(rename_all = \"UPPERCASE\")] struct S { #[serde(flatten)] a: T }")
    ≡ Ok ((codes "a", None) ∷ []))
    × (names (codes "struct S { #[serde(rename = \"x\", flatten)] a: T }")
    ≡ Ok ((codes "a", None) ∷ []))
    × (names (codes "#[serde(rename_all = \"UPPERCASE\")] struct S(u8, u8);")
    ≡ Ok ((decimal 0, None) ∷ (decimal 1, None) ∷ []))
    × (names (codes "struct S { r#type: u8 }")
    ≡ Ok ((codes "type", None) ∷ []))
unfolding alias_of attributes_from begins_attribute begins_character begins_statement blank_len character chars continues_name encode entries_from enum_of first_part first_token front_len gap_len is_keyword is_same item_len items_from mark named_call_len named_field nest_after opening_of path_from path_step piece pieces_from qualified_start qualifiers_len run_and_end_len run_from same_bracket start_of struct_of text_token tokens_from variant visible_len whole_call_len
name_rows = (refl, refl, refl, refl, refl, refl, refl, refl, refl, refl, refl, refl)

-- what is said of fields: where `flatten` stands, `default`, `metadata` and a mark
pub flag_rows :
    (flags (codes "struct S { a: u8 }")
    ≡ Ok ((None, false, false, dom.None) ∷ []))
    × (flags (codes "struct S { #[serde(flatten)] a: T }")
    ≡ Ok ((Some 19, false, false, dom.None) ∷ []))
    × (flags (codes "struct S { #[serde(default)] a: u8, b: u8 }")
    ≡ Ok ((None, true, false, dom.None) ∷ (None, false, false, dom.None) ∷ []))
    × (flags (codes "#[serde(default)] struct S { a: u8, b: u8 }")
    ≡ Ok ((None, true, false, dom.None) ∷ (None, true, false, dom.None) ∷ []))
    × (flags (codes "struct S { #[facet(metadata = span)] a: T, #[facet(xml::text)] b: String }")
    ≡ Ok ((None, false, true, dom.None) ∷ (None, false, false, dom.Text) ∷ []))
    × (flags (codes "struct S(u8);")
    ≡ Ok ((None, false, false, dom.None) ∷ []))
unfolding alias_of attributes_from begins_attribute begins_character begins_statement blank_len character chars continues_name encode entries_from enum_of first_part first_token front_len gap_len is_keyword is_same item_len items_from mark named_call_len named_field nest_after opening_of path_from path_step piece pieces_from qualified_start qualifiers_len run_and_end_len run_from same_bracket start_of struct_of text_token tokens_from variant visible_len whole_call_len
flag_rows = (refl, refl, refl, refl, refl, refl)

-- what is skipped is not there, and neither are fields that need not be there where one counts
pub left_out_rows :
    (names (codes "struct S { #[serde(skip)] a: u8, b: u8 }")
    ≡ Ok ((codes "b", None) ∷ []))
    × (names (codes "struct S { a: u8, #[serde(skip_deserializing)] b: u8 }")
    ≡ Ok ((codes "a", None) ∷ []))
    × (names (codes "#[serde(transparent)] struct S { #[serde(default)] a: u8, b: u8 }")
    ≡ Ok ((codes "b", None) ∷ []))
    × (names (codes "#[serde(transparent)] struct S { a: u8, #[serde(skip)] b: u8 }")
    ≡ Ok ((codes "a", None) ∷ []))
    × (names (codes "#[serde(rename_all = \"UPPERCASE\")] "
    ++ codes "struct S { #[serde(skip)] "
    ++ (195 ∷ 169 ∷ codes ": u8 }"))
    ≡ Ok [])
    × (variants (codes "enum E { #[serde(skip)] A, B }")
    ≡ Ok ((codes "B", codes "B", kind.Unit, []) ∷ []))
unfolding alias_of attributes_from begins_attribute begins_character begins_statement blank_len character chars continues_name encode entries_from enum_of first_part first_token front_len gap_len is_keyword is_same item_len items_from mark named_call_len named_field nest_after opening_of path_from path_step piece pieces_from qualified_start qualifiers_len run_and_end_len run_from same_bracket start_of struct_of text_token tokens_from variant visible_len whole_call_len
left_out_rows = (refl, refl, refl, refl, refl, refl)

-- variants: their names, their kinds, and the names of their fields
pub variant_rows :
    (variants (codes "enum E { A, B(u8), C { x: u8 } }")
    ≡ Ok ((codes "A", codes "A", kind.Unit, [])
    ∷ (codes "B", codes "B", kind.Tuple, None ∷ [])
    ∷ (codes "C", codes "C", kind.Struct, None ∷ []) ∷ []))
    × (variants (codes "enum E { #[serde(rename = \"x\")] A }")
    ≡ Ok ((codes "A", codes "x", kind.Unit, []) ∷ []))
    × (variants (codes "#[serde(rename_all = \"snake_case\")] enum E { TwoWords { a_b: u8 } }")
    ≡ Ok ((codes "TwoWords", codes "two_words", kind.Struct, None ∷ []) ∷ []))
    × (variants (codes "#[serde(rename_all = \"lowercase\")] enum E { #[serde(rename = \"X\")] A }")
    ≡ Ok ((codes "A", codes "X", kind.Unit, []) ∷ []))
    × (variants (codes "#[serde(rename_all_fields = \"UPPERCASE\")] enum E { A { b: u8 } }")
    ≡ Ok ((codes "A", codes "A", kind.Struct, Some (codes "B") ∷ []) ∷ []))
    × (variants (codes "enum E { #[serde(rename_all = \"UPPERCASE\")] A { b: u8 }, C { d: u8 } }")
    ≡ Ok ((codes "A", codes "A", kind.Struct, Some (codes "B") ∷ [])
    ∷ (codes "C", codes "C", kind.Struct, None ∷ []) ∷ []))
    × (variants (codes "#[serde(rename_all_fields = \"UPPERCASE\")] "
    ++ codes "enum E { #[serde(rename_all = \"kebab-case\")] A { b_c: u8 } }")
    ≡ Ok ((codes "A", codes "A", kind.Struct, Some (codes "b-c") ∷ []) ∷ []))
unfolding alias_of attributes_from begins_attribute begins_character begins_statement blank_len character chars continues_name encode entries_from enum_of first_part first_token front_len gap_len is_keyword is_same item_len items_from mark named_call_len named_field nest_after opening_of path_from path_step piece pieces_from qualified_start qualifiers_len run_and_end_len run_from same_bracket start_of struct_of text_token tokens_from variant visible_len whole_call_len
variant_rows = (refl, refl, refl, refl, refl, refl, refl)

-- structs: their kind, how many fields they have, whether they stand for one, whether they say so, and
-- whether they are for metadata
pub struct_rows :
    (structs (codes "struct S { a: u8 } struct T(u8, u8); struct U;")
    ≡ Ok ((kind.Struct, 1, false, false, false) ∷ (kind.TupleStruct, 2, false, false, false)
    ∷ (kind.Unit, 0, false, false, false) ∷ []))
    × (structs (codes "struct S(u8);")
    ≡ Ok ((kind.TupleStruct, 1, true, false, false) ∷ []))
    × (structs (codes "#[serde(transparent)] struct S(u8);")
    ≡ Ok ((kind.TupleStruct, 1, true, true, false) ∷ []))
    × (structs (codes "#[facet(transparent)] struct S { a: u8, #[serde(default)] b: u8 }")
    ≡ Ok ((kind.Struct, 1, true, true, false) ∷ []))
    × (structs (codes "#[facet(metadata_container)] struct S { a: u8 }")
    ≡ Ok ((kind.Struct, 1, false, false, true) ∷ []))
unfolding alias_of attributes_from begins_attribute begins_character begins_statement blank_len character chars continues_name encode entries_from enum_of first_part first_token front_len gap_len is_keyword is_same item_len items_from mark named_call_len named_field nest_after opening_of path_from path_step piece pieces_from qualified_start qualifiers_len run_and_end_len run_from same_bracket start_of struct_of text_token tokens_from variant visible_len whole_call_len
struct_rows = (refl, refl, refl, refl, refl)

-- enums: how their variants are told
pub enum_rows :
    (taggings (codes "enum E { A }")
    ≡ Ok ((None, None, false) ∷ []))
    × (taggings (codes "#[serde(tag = \"t\")] enum E { A }")
    ≡ Ok ((Some (codes "t"), None, false) ∷ []))
    × (taggings (codes "#[serde(tag = \"t\", content = r\"c\")] enum E { A }")
    ≡ Ok ((Some (codes "t"), Some (codes "c"), false) ∷ []))
    × (taggings (codes "#[serde(untagged)] enum E { A }")
    ≡ Ok ((None, None, true) ∷ []))
unfolding alias_of attributes_from begins_attribute begins_character begins_statement blank_len character chars continues_name encode entries_from enum_of first_part first_token front_len gap_len is_keyword is_same item_len items_from mark named_call_len named_field nest_after opening_of path_from path_step piece pieces_from qualified_start qualifiers_len run_and_end_len run_from same_bracket start_of struct_of text_token tokens_from variant visible_len whole_call_len
enum_rows = (refl, refl, refl, refl)

-- proxies: where each stands, its tokens with where they stand, and where they end
pub proxy_rows :
    (proxies (codes "#[serde(from = \"Vec<T>\")] struct S;")
    ≡ Ok ((
      8,
      (15, codes "Vec") ∷ (15, codes "<") ∷ (15, codes "T")
          ∷ (15, codes ">") ∷ [],
      15,
    ) ∷ []))
    × (proxies (codes "#[facet(proxy = Vec<T>)] enum E { A }")
    ≡ Ok ((
      8,
      (16, codes "Vec") ∷ (19, codes "<") ∷ (20, codes "T")
          ∷ (21, codes ">") ∷ [],
      22,
    ) ∷ []))
    × (proxies (codes "#[serde(try_from = r\"T\", into = \"T\")] "
    ++ codes "#[facet(opaque, proxy = T)] struct S;")
    ≡ Ok ((8, (19, codes "T") ∷ [], 19) ∷ (54, (62, codes "T") ∷ [], 63) ∷ []))
    × (proxies (codes "struct S { #[facet(opaque, proxy = T)] a: u8 }")
    ≡ Ok ((27, (35, codes "T") ∷ [], 36) ∷ []))
    × (proxies (codes "struct S(#[facet(proxy = \"T\")] u8);")
    ≡ Ok ((17, (25, codes "T") ∷ [], 25) ∷ []))
    × (proxies (codes "#[serde(from = \"\")] struct S;")
    ≡ Ok ((8, [], 15) ∷ []))
    × (proxies (codes "struct S { #[serde(with = \"a::m\")] a: u8 }")
    ≡ Ok ((19, (19, codes "stand_ins") ∷ (19, codes "::") ∷ (19, codes "m") ∷ [], 19) ∷ []))
    × (proxies (codes "struct S(#[serde(deserialize_with = \"f\", serialize_with = \"g\")] u8);")
    ≡ Ok ((17, (17, codes "stand_ins") ∷ (17, codes "::") ∷ (17, codes "f") ∷ [], 17) ∷ []))
unfolding alias_of attributes_from begins_attribute begins_character begins_statement blank_len character chars continues_name encode entries_from enum_of first_part first_token front_len gap_len is_keyword is_same item_len items_from mark named_call_len named_field nest_after opening_of path_from path_step piece pieces_from qualified_start qualifiers_len run_and_end_len run_from same_bracket start_of struct_of text_token tokens_from variant visible_len whole_call_len
proxy_rows = (refl, refl, refl, refl, refl, refl, refl, refl)

-- items: those that declare nothing are left out, and what is read as another type is not looked at
pub item_rows :
    (kinds (codes "use a::b; struct S; enum E { A } type T = u8; fn f() {}")
    ≡ Ok ((codes "S", codes "struct") ∷ (codes "E", codes "enum")
    ∷ (codes "T", codes "alias") ∷ []))
    × (kinds (codes "#[serde(from = \"T\")] struct S { #[serde(fooled)] a: u8 }")
    ≡ Ok ((codes "S", codes "proxied") ∷ []))
    × (kinds (codes "#[serde(try_from = \"T\")] enum E { #[serde(fooled)] A }")
    ≡ Ok ((codes "E", codes "proxied") ∷ []))
    × (strict (codes "#[serde(deny_unknown_fields)] struct S; struct T; type U = u8;")
    ≡ Ok (true ∷ false ∷ false ∷ []))
    × (strict (codes "#[serde(deny_unknown_fields)] "
    ++ codes "enum E { A } #[serde(deny_unknown_fields, from = \"E\")] struct S;")
    ≡ Ok (true ∷ true ∷ []))
unfolding alias_of attributes_from begins_attribute begins_character begins_statement blank_len character chars continues_name encode entries_from enum_of first_part first_token front_len gap_len is_keyword is_same item_len items_from mark named_call_len named_field nest_after opening_of path_from path_step piece pieces_from qualified_start qualifiers_len run_and_end_len run_from same_bracket start_of struct_of text_token tokens_from variant visible_len whole_call_len
item_rows = (refl, refl, refl, refl, refl)

-- `opaque` without a proxy
pub opaque_rows :
    (read (codes "#[facet(opaque)] struct S;")
    ≡ Err (At 8 (problem.Attribute (refusal.Misused misuse.Unsupported))))
    × (read (codes "#[facet(opaque)] enum E { A }")
    ≡ Err (At 8 (problem.Attribute (refusal.Misused misuse.Unsupported))))
    × (read (codes "enum E { #[facet(opaque)] A }")
    ≡ Err (At 17 (problem.Attribute (refusal.Misused misuse.Unsupported))))
    × (read (codes "struct S { #[facet(opaque)] a: u8 }")
    ≡ Err (At 19 (problem.Attribute (refusal.Misused misuse.Unsupported))))
    × (read (codes "struct S(#[facet(opaque)] u8);")
    ≡ Err (At 17 (problem.Attribute (refusal.Misused misuse.Unsupported))))
unfolding alias_of attributes_from begins_attribute begins_character begins_statement blank_len character chars continues_name encode entries_from enum_of first_part first_token front_len gap_len is_keyword is_same item_len items_from mark named_call_len named_field nest_after opening_of path_from path_step piece pieces_from qualified_start qualifiers_len run_and_end_len run_from same_bracket start_of struct_of text_token tokens_from variant visible_len whole_call_len
opaque_rows = (refl, refl, refl, refl, refl)

-- `transparent` where not one field counts, or one is flattened
pub transparent_rows :
    (read (codes "#[serde(transparent)] struct S { a: u8, b: u8 }")
    ≡ Err (At 8 (problem.Attribute (refusal.Misused misuse.Misplaced))))
    × (read (codes "#[serde(transparent)] struct S { #[serde(skip)] a: u8 }")
    ≡ Err (At 8 (problem.Attribute (refusal.Misused misuse.Misplaced))))
    × (read (codes "#[serde(transparent)] struct S { #[serde(default)] a: u8 }")
    ≡ Err (At 8 (problem.Attribute (refusal.Misused misuse.Misplaced))))
    × (read (codes "#[serde(transparent)] struct S;")
    ≡ Err (At 8 (problem.Attribute (refusal.Misused misuse.Misplaced))))
    × (read (codes "#[serde(transparent)] struct S(u8, u8);")
    ≡ Err (At 8 (problem.Attribute (refusal.Misused misuse.Misplaced))))
    × (read (codes "#[serde(transparent)] struct S { #[serde(flatten)] a: T }")
    ≡ Err (At 8 (problem.Attribute refusal.Flattens)))
    × (read (codes "#[serde(transparent)] struct S { a: u8, #[serde(flatten, default)] b: T }")
    ≡ Err (At 8 (problem.Attribute refusal.Flattens)))
    × (read (codes "#[serde(transparent)] enum E { A }")
    ≡ Err (At 8 (problem.Attribute (refusal.Misused misuse.Misplaced))))
unfolding alias_of attributes_from begins_attribute begins_character begins_statement blank_len character chars continues_name encode entries_from enum_of first_part first_token front_len gap_len is_keyword is_same item_len items_from mark named_call_len named_field nest_after opening_of path_from path_step piece pieces_from qualified_start qualifiers_len run_and_end_len run_from same_bracket start_of struct_of text_token tokens_from variant visible_len whole_call_len
transparent_rows = (refl, refl, refl, refl, refl, refl, refl, refl)

-- names that are not ASCII, under a case
pub letter_rows :
    (read (codes "#[serde(rename_all = \"UPPERCASE\")] struct S { " ++ (195 ∷ 169 ∷ codes ": u8 }"))
    ≡ Err (At 46 (problem.Attribute refusal.NotAscii)))
    × (read (codes "#[serde(rename_all = \"UPPERCASE\")] enum E { " ++ (195 ∷ 137 ∷ codes " }"))
    ≡ Err (At 44 (problem.Attribute refusal.NotAscii)))
    × (read (codes "#[serde(rename_all_fields = \"UPPERCASE\")] "
    ++ codes "enum E { A { "
    ++ (195 ∷ 169 ∷ codes ": u8 } }"))
    ≡ Err (At 55 (problem.Attribute refusal.NotAscii)))
    × (others (codes "#[serde(rename_all = \"UPPERCASE\")] "
    ++ codes "struct S { #[serde(rename = \"e\")] "
    ++ (195 ∷ 169 ∷ codes ": u8 }"))
    ≡ Ok (Some (codes "e") ∷ []))
    × (others (codes "struct S { " ++ (195 ∷ 169 ∷ codes ": u8 }"))
    ≡ Ok (None ∷ []))
unfolding alias_of attributes_from begins_attribute begins_character begins_statement blank_len character chars continues_name encode entries_from enum_of first_part first_token front_len gap_len is_keyword is_same item_len items_from mark named_call_len named_field nest_after opening_of path_from path_step piece pieces_from qualified_start qualifiers_len run_and_end_len run_from same_bracket start_of struct_of text_token tokens_from variant visible_len whole_call_len
letter_rows = (refl, refl, refl, refl, refl)

-- texts that are no types, and the first of several faults
pub order_rows :
    (read (codes "#[serde(from = \"T\\t\")] struct S;")
    ≡ Err (At 8 (problem.Attribute (refusal.Takes form.Type))))
    × (read (codes "#[serde(from = \"T)\")] struct S;")
    ≡ Err (At 15 problem.ClosesNothing))
    × (read (codes "#[serde(from = \"a ` b\")] struct S;")
    ≡ Err (At 15 (problem.NoToken 96)))
    × (names (codes "struct S { #[serde(skip, fooled)] a: u8 }")
    ≡ Ok [])
    × (read (codes "struct S { #[serde(fooled)] a: u8, #[serde(alias = \"x\")] b: u8 }")
    ≡ Err (At 19 (problem.Attribute (refusal.Misused misuse.Unknown))))
    × (read (codes "#[serde(alias = \"x\")] struct S { #[serde(fooled)] a: u8 }")
    ≡ Err (At 8 (problem.Attribute (refusal.Misused misuse.Unsupported))))
    × (read (codes "#[serde(rename_all = \"UPPERCASE\")] "
    ++ codes "enum E { "
    ++ (195 ∷ 137 ∷ codes " { #[serde(fooled)] a: u8 } }"))
    ≡ Err (At 44 (problem.Attribute refusal.NotAscii)))
    × (kinds (codes "enum E { #[serde(skip)] A { #[serde(fooled)] a: u8 } }")
    ≡ Ok ((codes "E", codes "enum") ∷ []))
    × (variants (codes "enum E { #[serde(flatten, skip)] A }")
    ≡ Ok [])
    × (read (codes "#[serde(transparent)] struct S { a: u8, #[serde(fooled)] b: u8 }")
    ≡ Err (At 48 (problem.Attribute (refusal.Misused misuse.Unknown))))
unfolding alias_of attributes_from begins_attribute begins_character begins_statement blank_len character chars continues_name encode entries_from enum_of first_part first_token front_len gap_len is_keyword is_same item_len items_from mark named_call_len named_field nest_after opening_of path_from path_step piece pieces_from qualified_start qualifiers_len run_and_end_len run_from same_bracket start_of struct_of text_token tokens_from variant visible_len whole_call_len
order_rows = (refl, refl, refl, refl, refl, refl, refl, refl, refl, refl)

-- skipped fields of tuples: those behind them move up, but for a lone one beside them
pub tuple_rows :
    (names (codes "struct S(#[serde(skip)] u8, u16, #[serde(default)] u32);")
    ≡ Ok ((decimal 0, None) ∷ (decimal 1, None) ∷ []))
    × (names (codes "struct S(u8, #[serde(skip)] u16);")
    ≡ Ok ((decimal 1, None) ∷ []))
    × (names (codes "struct S(#[serde(skip)] u8);")
    ≡ Ok ((decimal 0, None) ∷ []))
    × (structs (codes "#[serde(transparent)] struct S(u8, #[serde(skip)] u16);")
    ≡ Ok ((kind.TupleStruct, 1, true, true, false) ∷ []))
    × (structs (codes "#[serde(transparent)] struct S(u8, #[serde(default)] u16);")
    ≡ Ok ((kind.TupleStruct, 1, true, true, false) ∷ []))
    × (variants (codes "enum E { A(#[serde(skip)] u8), B(#[serde(skip)] u8, u16) }")
    ≡ Ok ((codes "A", codes "A", kind.Tuple, [])
    ∷ (codes "B", codes "B", kind.Tuple, None ∷ []) ∷ []))
unfolding alias_of attributes_from begins_attribute begins_character begins_statement blank_len character chars continues_name encode entries_from enum_of first_part first_token front_len gap_len is_keyword is_same item_len items_from mark named_call_len named_field nest_after opening_of path_from path_step piece pieces_from qualified_start qualifiers_len run_and_end_len run_from same_bracket start_of struct_of text_token tokens_from variant visible_len whole_call_len
tuple_rows = (refl, refl, refl, refl, refl, refl)

-- all faults, field by field and variant by variant: those that have some are left out
pub fault_rows :
    (faults (codes "#[serde(alias = \"x\")] struct S { #[serde(fooled)] a: u8, #[serde(fooled)] b: T }")
    ≡ Ok (At 8 (problem.Attribute (refusal.Misused misuse.Unsupported))
    ∷ At 41 (problem.Attribute (refusal.Misused misuse.Unknown))
    ∷ At 65 (problem.Attribute (refusal.Misused misuse.Unknown)) ∷ []))
    × (faults (codes "enum E { #[serde(fooled)] A(#[serde(fooled)] u8), B(#[serde(fooled)] u8) } "
    ++ codes "#[serde(fooled)] struct S;")
    ≡ Ok (At 17 (problem.Attribute (refusal.Misused misuse.Unknown))
    ∷ At 60 (problem.Attribute (refusal.Misused misuse.Unknown))
    ∷ At 83 (problem.Attribute (refusal.Misused misuse.Unknown)) ∷ []))
unfolding alias_of attributes_from begins_attribute begins_character begins_statement blank_len character chars continues_name encode entries_from enum_of first_part first_token front_len gap_len is_keyword is_same item_len items_from mark named_call_len named_field nest_after opening_of path_from path_step piece pieces_from qualified_start qualifiers_len run_and_end_len run_from same_bracket start_of struct_of text_token tokens_from variant visible_len whole_call_len
fault_rows = (refl, refl)
