-- Sets of key paths, and the nested ones: what lies under a shape or a variant, by names alone.
-- They are five sets that share one definition. They end since fields refer to earlier shapes: the
-- definition goes down as many levels as the catalogue has shapes.
use Rattle.std.specs.Prelude.{List, [], ◌∷◌, ◌++◌, map, ◌≡◌, ◌⊎◌, ◌<◌, ℕ, zero, suc, Bool, true, false, ◌&&◌, if◌then◌else◌, string_bytes, length}
use Rattle.std.specs.Ordering.{nat_cmp}
use Rattle.std.specs.Cmp.Lexicographic.{slice_cmp}
use Rattle.std.specs.FinSet as set
use Rattle.facet_solver_shape.specs.Names.{Name, effective_name}
use Rattle.facet_solver_shape.specs.Resolved.{Resolved}
use Rattle.facet_solver_shape.specs.declared.shape.Field.{Field}
use Rattle.facet_solver_shape.specs.declared.shape.Variant.{Variant}
use Rattle.facet_solver_shape.specs.declared.shape.ShapeKind.{ShapeKind}
use Rattle.facet_solver_shape.specs.declared.shape.ShapeKind.TheVariants.{Struct, Enum}
use Rattle.facet_solver.specs.declared.build.nested.Entered as code
use Rattle.facet_solver.specs.declared.build.nested.Entered.TheVariants.{StructsAlone, EveryKind}
use Rattle.facet_solver.specs.build.Build.{Catalogue, kind_at}
use Rattle.facet_solver.specs.build.Content.{is_zero}

-- the names from the root to a key
abbrev pub KeyPath : Type 0
KeyPath = List Name

-- a set of key paths
abbrev pub KeyPaths : Type 0
KeyPaths = set.FinSet (slice_cmp (slice_cmp nat_cmp))

-- no key path
abbrev pub no_paths : KeyPaths
no_paths = set.empty

-- the key paths of all items together
abbrev pub paths_of_each : {X : Type 0} → (X → KeyPaths) → List X → KeyPaths
paths_of_each paths [] = no_paths
paths_of_each paths (x ∷ xs) = set.union (paths x) (paths_of_each paths xs)

-- each key path behind a prefix
unfoldable pub behind_prefix : KeyPath → KeyPaths → KeyPaths
behind_prefix prefix paths = set.from_list (map (λ q. prefix ++ q) (set.items paths))

-- a name, and each key path behind it
abbrev pub named : Name → KeyPaths → KeyPaths
named name paths = set.insert (behind_prefix (name ∷ []) paths) (name ∷ [])

-- with the key paths of a set
unfoldable pub with_key_paths : Resolved → KeyPaths → Resolved
with_key_paths r paths = record r { key_paths = set.union r.key_paths paths }

-- with the key paths of a set, each behind a prefix
abbrev pub with_paths_behind : Resolved → KeyPath → KeyPaths → Resolved
with_paths_behind r prefix paths = with_key_paths r (behind_prefix prefix paths)

-- the key paths under a shape
abbrev pub Under : Type 0
Under = ℕ → KeyPaths

-- a kind of shape that has fields
abbrev pub has_fields : ShapeKind → Bool
has_fields (Struct kind fields) = true
has_fields (Enum variants) = true
has_fields _ = false

-- which kinds of shapes are entered, below a regular field and through a variant's single field `0`
abbrev pub Entered : Type 0
Entered = ShapeKind → Bool

-- structs are entered, and nothing else
abbrev pub structs_alone : Entered
structs_alone (Struct kind fields) = true
structs_alone _ = false

-- every shape is entered
abbrev pub every_kind : Entered
every_kind kind = true

-- what the code's choice of entered shapes says
abbrev pub entered_view : code.Entered → Entered
entered_view StructsAlone = structs_alone
entered_view EveryKind = every_kind

-- through a field: a flattened one gives what is under its shape, a regular one its name and what
-- is behind it
abbrev pub through_field_step : Under → Under → Field → KeyPaths
through_field_step regular flattened f =
    if f.flattened then flattened f.shape else named (effective_name f) (regular f.shape)

-- through fields together
abbrev pub through_fields_step : Under → Under → List Field → KeyPaths
through_fields_step regular flattened fs = paths_of_each (through_field_step regular flattened) fs

-- under a variant's fields: a single field `0` stands for its shape where that is entered
abbrev pub under_fields_step : Entered → Catalogue → Under → Under → List Field → KeyPaths
under_fields_step entered cat regular flattened [] = no_paths
under_fields_step entered cat regular flattened (f ∷ []) =
    if is_zero (string_bytes f.name) && entered (kind_at cat f.shape)
    then regular f.shape
    else through_fields_step regular flattened (f ∷ [])
under_fields_step entered cat regular flattened (f ∷ g ∷ fs) =
    through_fields_step regular flattened (f ∷ g ∷ fs)

-- under a variant
abbrev pub under_variant_step : Entered → Catalogue → Under → Under → Variant → KeyPaths
under_variant_step entered cat regular flattened v =
    under_fields_step entered cat regular flattened v.fields.items

-- under a struct, by its fields; nothing is under another kind
abbrev pub under_struct : (List Field → KeyPaths) → ShapeKind → KeyPaths
under_struct through_fields (Struct kind fields) = through_fields fields.items
under_struct through_fields _ = no_paths

-- under a struct, by its fields, or under all variants of an enum; nothing is under another kind
abbrev pub under_kind : (List Field → KeyPaths) → (Variant → KeyPaths) → ShapeKind → KeyPaths
under_kind through_fields under_variant (Struct kind fields) = through_fields fields.items
under_kind through_fields under_variant (Enum variants) = paths_of_each under_variant variants.items
under_kind through_fields under_variant _ = no_paths

-- what is under a shape where it is entered
abbrev pub if_entered_step : Entered → Catalogue → Under → Under
if_entered_step entered cat under id = if entered (kind_at cat id) then under id else no_paths

-- under a shape, from what is under the shapes that its fields name
abbrev pub under_shape_step : Entered → Catalogue → Under → Under
under_shape_step entered cat under id =
    under_kind
    (through_fields_step (if_entered_step entered cat under) under)
    (under_variant_step entered cat (if_entered_step entered cat under) under)
    (kind_at cat id)

-- under a shape, down to n levels
unfoldable pub under_within : ℕ → Entered → Catalogue → Under
under_within zero entered cat id = no_paths
under_within (suc n) entered cat id = under_shape_step entered cat (under_within n entered cat) id

-- under a shape: no level of a checked catalogue lies deeper than its length
unfoldable pub under_shape : Entered → Catalogue → Under
under_shape entered cat = under_within (suc (length cat)) entered cat

-- what is under a shape where it is entered
abbrev pub if_entered : Entered → Catalogue → Under
if_entered entered cat = if_entered_step entered cat (under_shape entered cat)

-- through a field
abbrev pub through_field : Entered → Catalogue → Field → KeyPaths
through_field entered cat = through_field_step (if_entered entered cat) (under_shape entered cat)

-- through fields together
abbrev pub through_fields : Entered → Catalogue → List Field → KeyPaths
through_fields entered cat = paths_of_each (through_field entered cat)

-- under a variant
abbrev pub under_variant : Entered → Catalogue → Variant → KeyPaths
under_variant entered cat =
    under_variant_step entered cat (if_entered entered cat) (under_shape entered cat)

-- under variants together
abbrev pub under_variants : Entered → Catalogue → List Variant → KeyPaths
under_variants entered cat = paths_of_each (under_variant entered cat)

-- what is behind a regular field, by its shape: only structs are entered
unfoldable pub nested_paths : Catalogue → Under
nested_paths cat = if_entered structs_alone cat

-- what a flattened field gives, by its shape: a struct's nested paths, or those of an enum's
-- variants
unfoldable pub flattened_paths : Catalogue → Under
flattened_paths cat = under_shape structs_alone cat

-- what a variant of a flattened enum gives
unfoldable pub variant_paths : Catalogue → Variant → KeyPaths
variant_paths cat = under_variant structs_alone cat

-- what is under a shape in the content of a variant: every shape is entered
unfoldable pub content_paths_of_shape : Catalogue → Under
content_paths_of_shape cat = under_shape every_kind cat

-- what is under the content of a variant that is written apart from its enum's siblings
unfoldable pub content_paths : Catalogue → Variant → KeyPaths
content_paths cat = under_variant every_kind cat

-- each of the five sets is what the kind of its shape, or its variant's fields, make of the others
pub record FollowsKinds (cat : Catalogue) : Type 0 where
  pub nested : (id : ℕ) → nested_paths cat id
      ≡ under_struct (through_fields_step (nested_paths cat) (flattened_paths cat)) (kind_at cat id)
  pub flattened : (id : ℕ) → flattened_paths cat id
      ≡ under_kind (through_fields_step (nested_paths cat) (flattened_paths cat))
      (variant_paths cat) (kind_at cat id)
  pub variants : (v : Variant) → variant_paths cat v
      ≡ under_variant_step structs_alone cat (nested_paths cat) (flattened_paths cat) v
  pub content_of_shape : (id : ℕ) → content_paths_of_shape cat id
      ≡ under_kind (through_fields_step (content_paths_of_shape cat) (content_paths_of_shape cat))
      (content_paths cat) (kind_at cat id)
  pub content : (v : Variant) → content_paths cat v
      ≡ under_variant_step every_kind cat
      (content_paths_of_shape cat) (content_paths_of_shape cat) v

-- more levels than there are shapes find nothing more
abbrev pub EndsByLength : Catalogue → Type 0
EndsByLength cat = (entered : Entered) (levels id : ℕ) → length cat < levels
    → under_within levels entered cat id ≡ under_shape entered cat id

-- no key path is empty, and each that a longer one goes through is among them
pub record HasNoGaps (paths : KeyPaths) : Type 0 where
  pub none_empty : set.contains paths [] ≡ false
  pub gone_through : (p : KeyPath) (n : Name) → set.contains paths (p ++ n ∷ []) ≡ true
      → (p ≡ []) ⊎ (set.contains paths p ≡ true)
