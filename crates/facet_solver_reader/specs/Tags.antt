-- Which variant of an enum the text of its tag names.
use Rattle.std.specs.Prelude.{◌≡◌, ℕ, Contains, List, Option, None, Some, slice_get, string_bytes}
use Rattle.facet_solver_shape.specs.declared.shape.Variant.{Variant}
use Rattle.facet_solver_shape.specs.Catalogues.{Catalogue}
use Rattle.facet_solver_shape.specs.Names.{Name}
use Rattle.facet_solver_shape.specs.Representation.{Repr, internally_tagged, adjacently_tagged}
use Rattle.facet_solver_reader.specs.declared.tables.tags.TagTable.{TagTable}
use Rattle.facet_solver_reader.specs.Documents.{Member, text}
use Rattle.facet_solver_reader.specs.Nodes.{AreByName, entries}
use Rattle.facet_solver_reader.specs.Objects.{find}
use Rattle.facet_solver_reader.specs.Types.{repr_at, variants_at}

-- the name of the member that tells the variants of a representation apart, if one does
abbrev pub tag_of : Repr → Option Name
tag_of (internally_tagged tag) = Some tag
tag_of (adjacently_tagged tag content) = Some tag
tag_of _ = None

-- the name of each variant is there with its index
abbrev pub HoldsVariants : List (Name × ℕ) → List Variant → Type 0
HoldsVariants texts vs =
    (k : ℕ) (v : Variant) → slice_get vs k ≡ Some v → Contains texts (string_bytes v.name, k)

-- it has the tag of the enum at an index, and of each text the one variant that the text names
pub record IsTagTable (shapes : Catalogue) (id : ℕ) (t : TagTable) : Type 0 where
  pub tag_is : tag_of (repr_at shapes id) ≡ Some t.name.now
  pub variants : HoldsVariants (entries t.by_text.items) (variants_at shapes id)
  pub by_text : AreByName t.by_text.items

-- each is the tag of the enum at its index
abbrev pub AreTags : Catalogue → List (Option TagTable) → Type 0
AreTags shapes tags =
    (id : ℕ) (t : TagTable) → slice_get tags id ≡ Some (Some t) → IsTagTable shapes id t

-- members have a text that names the variant of an index
pub record IsNamedBy (t : TagTable) (ms : List Member) (k : ℕ) : Type 0 where
  pub name : Name
  pub found : find ms t.name.now ≡ Some (text name)
  pub names : Contains (entries t.by_text.items) (name, k)
