-- What to write where an attribute cannot be said.
use Rattle.std.specs.Prelude.{ℕ, if◌then◌else◌, List, [], ◌∷◌, drop, take, Option, codes}
use Rattle.facet_solver_shape.specs.Names.{Name, name_eq}
use Rattle.facet_solver_types.specs.Cases.{said_by}

-- a word without the `r#` that makes it raw
abbrev pub bare : Name → Name
bare word = if name_eq (take 2 word) (codes "r#") then drop 2 word else word

-- what to write in the place of an attribute that cannot be said, or beside it, by its word
abbrev pub help_for : Name → Option (List ℕ)
help_for word =
    said_by ((codes "alias", codes "write the one name that documents have")
    ∷ (codes "other", codes "write each variant")
    ∷ (codes "with", codes "write the type that it is read as, as in proxy = String")
    ∷ (codes "deserialize_with", codes "write the type that it is read as, as in proxy = String")
    ∷ (codes "serde_as", codes "write the type that it is read as, as in proxy = String")
    ∷ (codes "remote", codes "declare the type itself")
    ∷ (codes "field_identifier", codes "write an enum of unit variants")
    ∷ (codes "variant_identifier", codes "write an enum of unit variants")
    ∷ (codes "is_numeric", codes "write each variant by its name")
    ∷ (codes "opaque", codes "write proxy = T beside it")
    ∷ (codes "flatten", codes "write it in #[serde(..)]")
    ∷ (codes "untagged", codes "write it in #[serde(..)], on an enum")
    ∷ []) (bare word)
