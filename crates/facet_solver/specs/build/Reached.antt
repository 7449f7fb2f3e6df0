-- The shapes that the walks of a root's choices go through, and those whose nested key paths they
-- ask for. Only private contracts and proofs speak of it.
use Rattle.std.specs.Prelude.{◌≡◌, ℕ, Bool, true, false, List, Option, None, Some, All, IfSome, ⊤, Vec, slice_get}
use Rattle.std.specs.declared.alloc.Global.{Global}
use Rattle.facet_solver_shape.specs.declared.shape.Field.{Field}
use Rattle.facet_solver_shape.specs.declared.shape.Shape.{Shape}
use Rattle.facet_solver_shape.specs.declared.shape.ShapeKind.{ShapeKind}
use Rattle.facet_solver_shape.specs.declared.shape.ShapeKind.TheVariants.{Enum, Struct}
use Rattle.facet_solver_shape.specs.declared.shape.Variant.{Variant}
use Rattle.facet_solver.specs.declared.build.nested.tables.NestedTables.{NestedTables}
use Rattle.facet_solver.specs.declared.build.place.Chosen.{Chosen}
use Rattle.facet_solver.specs.build.Build.{Build, Catalogue, kind_at, repr_for}
use Rattle.facet_solver.specs.build.Content.{effective_of_only, newtype_fields}
use Rattle.facet_solver.specs.build.Nested.{every_kind, structs_alone}
use Rattle.facet_solver.specs.build.NestedTable.{AreEntries, AskedBy, HasVariants, IsClosed, IsFilled, IsMarked, IsMarkedMore, LeadEarlier, MarksAmong}
use Rattle.facet_solver_shape.specs.Representation.{is_walked}
use Rattle.facet_solver_shape.specs.Roles.{Role, alternatives, block, catch_all, leaf, regular, role_of}

-- marks of the shapes that are walked, and of the structs that are shapes of regular fields
pub record Reach : Type 0 where
  pub walked : List Bool
  pub structs : List Bool

-- these marks
abbrev pub reach : List Bool → List Bool → Reach
reach walked structs = record { walked = walked; structs = structs }

-- marks were made below a limit, and none went
pub record IsReachedMore (limit : ℕ) (old new : Reach) : Type 0 where
  pub walked : IsMarkedMore limit old.walked new.walked
  pub structs : IsMarkedMore limit old.structs new.structs

-- all that is marked is marked in others too
pub record ReachAmong (m n : Reach) : Type 0 where
  pub walked : MarksAmong m.walked n.walked
  pub structs : MarksAmong m.structs n.structs

-- what a field with a shape and a role leads to is marked
abbrev pub RoleReached : Reach → Catalogue → ℕ → Role → Type 0
RoleReached m cat id regular = structs_alone (kind_at cat id) ≡ true → IsMarked m.structs id
RoleReached m cat id (block target fs) = IsMarked m.walked target.shape
RoleReached m cat id (alternatives target s vs) = IsMarked m.walked target.shape
RoleReached m cat id (catch_all target) = ⊤
RoleReached m cat id (leaf target) = ⊤

-- what a field leads to is marked
abbrev pub FieldReached : Reach → Catalogue → Field → Type 0
FieldReached m cat f = RoleReached m cat f.shape (role_of cat f)

-- the struct of a newtype is marked, or else what the fields lead to
abbrev pub ContentReachedBy : Reach → Catalogue → List Field → Option (List Field) → Type 0
ContentReachedBy m cat fs None = All (FieldReached m cat) fs
ContentReachedBy m cat fs (Some gs) = IfSome (effective_of_only cat fs) (IsMarked m.walked)

-- the same of fields that are a variant's
abbrev pub ContentReached : Reach → Catalogue → List Field → Type 0
ContentReached m cat fs = ContentReachedBy m cat fs (newtype_fields cat fs)

-- the same of a variant
abbrev pub VariantReached : Reach → Catalogue → Variant → Type 0
VariantReached m cat v = ContentReached m cat v.fields.items

-- what the fields of a struct lead to is marked, and what the variants of an enum do that is
-- walked; one that is written apart is marked itself
abbrev pub KindReached : Reach → Catalogue → Type 0 → Bool → ShapeKind → Type 0
KindReached m cat apart walked (Struct kind fs) = All (FieldReached m cat) fs.items
KindReached m cat apart true (Enum vs) = All (VariantReached m cat) vs.items
KindReached m cat apart false (Enum vs) = apart
KindReached m cat apart walked _ = ⊤

-- the same of a shape that may be absent
abbrev pub ShapeReached : Reach → Type 0 → Build → Option Shape → Type 0
ShapeReached m apart build None = ⊤
ShapeReached m apart build (Some s) =
    KindReached m build.catalogue apart (is_walked (repr_for build s)) s.kind

-- the same of the shape at an index
abbrev pub IsReachedAt : Reach → List Bool → Build → ℕ → Type 0
IsReachedAt m apart build id =
    ShapeReached m (IsMarked apart id) build (slice_get build.catalogue id)

-- what a root leads to is marked: an enum's content is walked, whatever its representation
abbrev pub RootReached : Reach → Catalogue → ℕ → Type 0
RootReached m cat root = KindReached m cat ⊤ true (kind_at cat root)

-- marks of what walks go through, and of the enums whose content is written apart
pub record Marked : Type 0 where
  pub reach : Reach
  pub apart : List Bool

-- these marks
abbrev pub marked : List Bool → List Bool → List Bool → Marked
marked walked structs apart = record { reach = reach walked structs; apart = apart }

-- all that is marked is marked in others too
pub record AskedAmong (m n : Marked) : Type 0 where
  pub reach : ReachAmong m.reach n.reach
  pub apart : MarksAmong m.apart n.apart

-- what the walked shapes lead to is marked
abbrev pub AreReached : Build → Marked → Type 0
AreReached build m =
    (id : ℕ) → IsMarked m.reach.walked id → IsReachedAt m.reach m.apart build id

-- what the walks of a root lead to is marked, and what the key paths of its structs are made from
pub record HoldReached (build : Build) (root : ℕ) (m : Marked) : Type 0 where
  pub reached : RootReached m.reach build.catalogue root
  pub walked : AreReached build m
  pub structs : IsClosed structs_alone build.catalogue m.reach.structs

-- all that the walks of a root ask for is marked, and what the key paths of content are made from
-- that is written apart
pub record HoldAsked (build : Build) (root : ℕ) (m : Marked) (contents : List Bool) : Type 0 where
  pub reached : HoldReached build root m
  pub by_apart : AskedBy every_kind build.catalogue m.apart contents
  pub closed : IsClosed every_kind build.catalogue contents

-- tables have the entries of a build's shapes, and each entry leads to earlier ones
pub record AreTables (build : Build) (tables : NestedTables) : Type 0 where
  pub structs : AreEntries structs_alone build.catalogue tables.structs.by_index.items
  pub contents : AreEntries every_kind build.catalogue tables.contents.by_index.items
  pub structs_earlier : LeadEarlier tables.structs.by_index.items
  pub contents_earlier : LeadEarlier tables.contents.by_index.items

-- what the walked shapes lead to is marked or has an entry
pub record Follows (build : Build) (tables : NestedTables) (m : Reach) : Type 0 where
  pub closed : (id : ℕ) → IsMarked m.walked id
      → ShapeReached m (HasVariants tables.contents.by_index.items id) build
      (slice_get build.catalogue id)
  pub structs : (id : ℕ) → IsMarked m.structs id → IsFilled tables.structs.by_index.items id

-- tables have only what is marked: the fields under a shape, and those under variants
pub record HaveOnly (m : Marked) (contents : List Bool) (tables : NestedTables) : Type 0 where
  pub under_structs : (id : ℕ) → IsFilled tables.structs.by_index.items id
      → IsMarked m.reach.structs id
  pub no_variants : (id : ℕ) → HasVariants tables.structs.by_index.items id → ⊥
  pub under_contents : (id : ℕ) → IsFilled tables.contents.by_index.items id → IsMarked contents id
  pub variants : (id : ℕ) → HasVariants tables.contents.by_index.items id → IsMarked m.apart id

-- tables have the entries that walks ask for from where they lead to what is marked
pub record Serves (build : Build) (tables : NestedTables) (Reached : Reach → Type 0) : Type 0 where
  pub marks : Reach
  pub follows : Follows build tables marks
  pub reached : Reached marks

-- the same of the walks of a root
abbrev pub ServesRoot : Build → NestedTables → ℕ → Type 0
ServesRoot build tables root = Serves build tables (λ m. RootReached m build.catalogue root)

-- of a field
abbrev pub ServesField : Build → NestedTables → Field → Type 0
ServesField build tables f = Serves build tables (λ m. FieldReached m build.catalogue f)

-- of fields
abbrev pub ServesFields : Build → NestedTables → List Field → Type 0
ServesFields build tables fs =
    Serves build tables (λ m. All (FieldReached m build.catalogue) fs)

-- of the content of a variant
abbrev pub ServesVariant : Build → NestedTables → Variant → Type 0
ServesVariant build tables v = Serves build tables (λ m. VariantReached m build.catalogue v)

-- of a flattened enum
abbrev pub ServesEnum : Build → NestedTables → ℕ → Type 0
ServesEnum build tables id = Serves build tables (λ m. IsMarked m.walked id)

-- where a regular field's shape is a struct, a table has its entry
abbrev pub ServesRegular : NestedTables → Catalogue → ℕ → Type 0
ServesRegular tables cat id =
    structs_alone (kind_at cat id) ≡ true → IsFilled tables.structs.by_index.items id

-- the same where a field's role is regular
abbrev pub ServesPlain : NestedTables → Catalogue → ℕ → Role → Type 0
ServesPlain tables cat id regular = ServesRegular tables cat id
ServesPlain tables cat id (block target fs) = ⊤
ServesPlain tables cat id (alternatives target s vs) = ⊤
ServesPlain tables cat id (catch_all target) = ⊤
ServesPlain tables cat id (leaf target) = ⊤

-- a chosen variant stands at its index in the enum of its target
pub record IsChosen (cat : Catalogue) (chosen : Chosen) : Type 0 where
  pub variants : Vec Variant Global
  pub shape : slice_get cat chosen.target.shape ≡ Some chosen.shape.now
  pub kind : chosen.shape.now.kind ≡ Enum variants
  pub variant : slice_get variants.items chosen.index ≡ Some chosen.variant.now

-- where the content of a chosen variant is written apart, a table has the fields under it
abbrev pub ServesApart : NestedTables → Build → Chosen → Type 0
ServesApart tables build chosen = is_walked (repr_for build chosen.shape.now) ≡ false
    → HasVariants tables.contents.by_index.items chosen.target.shape
