-- What an attribute of serde or facet means, by its name and by what it stands on.
use Rattle.std.specs.Prelude.{Bool, ◌||◌, if◌then◌else◌, List, [], ◌∷◌, Option, Some, option_map, codes, Result, Ok}
use Rattle.std.specs.List.{list_any}
use Rattle.std.specs.Option.{is_some, ok_or, option_or}
use Rattle.facet_solver_shape.specs.Names.{Name, name_eq}
use Rattle.facet_solver_shape.specs.declared.shape.DomMark.{DomMark}
use Rattle.facet_solver_shape.specs.declared.shape.DomMark.TheVariants as dom
use Rattle.facet_solver_types.specs.declared.attribute.meaning.Meaning.{Meaning}
use Rattle.facet_solver_types.specs.declared.attribute.meaning.Meaning.TheVariants.{Flatten, Default, Rename, RenameAll, RenameAllFields, Tag, Content, Untagged, Transparent, Skip, Proxy, With, Dom, MetadataContainer, Metadata, DenyUnknownFields, Opaque, Nothing}
use Rattle.facet_solver_types.specs.declared.attribute.meaning.Misuse.{Misuse}
use Rattle.facet_solver_types.specs.declared.attribute.meaning.Misuse.TheVariants.{Unknown, Misplaced, Unsupported}
use Rattle.facet_solver_types.specs.declared.attribute.meaning.Subject.{Subject}
use Rattle.facet_solver_types.specs.declared.attribute.meaning.Subject.TheVariants.{NamedStruct, OtherStruct, Enum, Variant, NamedField, NewtypeField, TupleField}
use Rattle.facet_solver_types.specs.Cases.{said_by}

-- whether a name is one of some
abbrev pub is_among : List Name → Name → Bool
is_among names name = list_any (λ one. name_eq name one) names

-- no reading changes by these, whatever they stand on
abbrev pub is_passed_over : Name → Bool
is_passed_over =
    is_among (codes "skip_serializing" ∷ codes "skip_serializing_if" ∷ codes "serialize_with"
    ∷ codes "into" ∷ codes "getter" ∷ codes "borrow" ∷ codes "bound" ∷ codes "crate"
    ∷ codes "expecting" ∷ codes "sensitive" ∷ codes "invariants" ∷ codes "traits"
    ∷ codes "auto_traits" ∷ codes "pod" ∷ codes "derive" ∷ codes "truthy"
    ∷ codes "skip_unless_truthy" ∷ codes "skip_all_unless_truthy" ∷ [])

-- no catalogue says what these ask, where they have no meaning
abbrev pub is_unsupported : Name → Bool
is_unsupported =
    is_among (codes "alias" ∷ codes "other" ∷ codes "with" ∷ codes "deserialize_with"
    ∷ codes "remote" ∷ codes "is_numeric" ∷ codes "field_identifier"
    ∷ codes "variant_identifier" ∷ [])

-- nor what else stands on a variant alone: to be read where no other variant is
abbrev pub is_unsupported_on : Subject → Name → Bool
is_unsupported_on Variant name = is_unsupported name || name_eq name (codes "untagged")
is_unsupported_on subject name = is_unsupported name

-- the marks of a field in a tree of elements
abbrev pub dom_mark : Name → Option DomMark
dom_mark =
    said_by ((codes "attribute", dom.Attribute) ∷ (codes "element", dom.Element)
    ∷ (codes "text", dom.Text) ∷ (codes "tag", dom.Tag) ∷ (codes "elements", dom.Elements) ∷ [])

-- what is said on each struct
abbrev pub on_struct : Name → Option Meaning
on_struct =
    said_by ((codes "rename", Nothing) ∷ (codes "rename_all", RenameAll)
    ∷ (codes "transparent", Transparent) ∷ (codes "from", Proxy) ∷ (codes "try_from", Proxy)
    ∷ (codes "proxy", Proxy) ∷ (codes "deny_unknown_fields", DenyUnknownFields) ∷ [])

-- on one with named fields, more is; its `tag` is written and never read
abbrev pub on_named_struct : Name → Option Meaning
on_named_struct name =
    option_or
    (said_by ((codes "default", Default) ∷ (codes "tag", Nothing)
    ∷ (codes "metadata_container", MetadataContainer) ∷ []) name)
    (on_struct name)

-- on an enum
abbrev pub on_enum : Name → Option Meaning
on_enum =
    said_by ((codes "rename", Nothing) ∷ (codes "rename_all", RenameAll)
    ∷ (codes "rename_all_fields", RenameAllFields) ∷ (codes "tag", Tag)
    ∷ (codes "content", Content) ∷ (codes "untagged", Untagged) ∷ (codes "from", Proxy)
    ∷ (codes "try_from", Proxy) ∷ (codes "proxy", Proxy)
    ∷ (codes "deny_unknown_fields", DenyUnknownFields) ∷ [])

-- on a variant
abbrev pub on_variant : Name → Option Meaning
on_variant =
    said_by ((codes "rename", Rename) ∷ (codes "rename_all", RenameAll) ∷ (codes "skip", Skip)
    ∷ (codes "skip_deserializing", Skip) ∷ [])

-- on a field with a name
abbrev pub on_named_field : Name → Option Meaning
on_named_field name =
    option_or
    (said_by ((codes "flatten", Flatten) ∷ (codes "default", Default) ∷ (codes "rename", Rename)
    ∷ (codes "skip", Skip) ∷ (codes "skip_deserializing", Skip) ∷ (codes "proxy", Proxy)
    ∷ (codes "with", With) ∷ (codes "deserialize_with", With) ∷ (codes "metadata", Metadata)
    ∷ []) name)
    (option_map Dom (dom_mark name))

-- on a field of a tuple
abbrev pub on_tuple_field : Name → Option Meaning
on_tuple_field =
    said_by ((codes "default", Default) ∷ (codes "skip", Skip)
    ∷ (codes "skip_deserializing", Skip) ∷ (codes "proxy", Proxy) ∷ (codes "with", With)
    ∷ (codes "deserialize_with", With) ∷ [])

-- on the one field of a tuple struct: what stands for the struct is always there
abbrev pub on_newtype_field : Name → Option Meaning
on_newtype_field =
    said_by ((codes "default", Nothing) ∷ (codes "skip", Nothing)
    ∷ (codes "skip_deserializing", Nothing) ∷ (codes "proxy", Proxy) ∷ (codes "with", With)
    ∷ (codes "deserialize_with", With) ∷ [])

-- on a subject, but `opaque`, which is said on each
abbrev pub on : Subject → Name → Option Meaning
on NamedStruct = on_named_struct
on OtherStruct = on_struct
on Enum = on_enum
on Variant = on_variant
on NamedField = on_named_field
on TupleField = on_tuple_field
on NewtypeField = on_newtype_field

-- what an attribute means that stands on the right subject
abbrev pub meaning_on : Subject → Name → Option Meaning
meaning_on subject name =
    if name_eq name (codes "opaque") then Some Opaque else on subject name

-- whether it means something on some subject
abbrev pub has_meaning : Name → Bool
has_meaning name =
    is_some (on_named_struct name) || is_some (on_enum name) || is_some (on_variant name)
    || is_some (on_named_field name)

-- an attribute that means nothing on its subject
abbrev pub misuse : Subject → Name → Misuse
misuse subject name =
    if is_unsupported_on subject name then Unsupported
    else (if has_meaning name then Misplaced else Unknown)

-- what an attribute means on a subject, by its name
abbrev pub means : Subject → Name → Result Meaning Misuse
means subject name =
    if is_passed_over name then Ok Nothing
    else ok_or (meaning_on subject name) (misuse subject name)
