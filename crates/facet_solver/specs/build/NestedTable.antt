-- Tables by the index of the shape of the fields that nested key paths go through, and what fields
-- ask of them. Only private contracts and proofs speak of them.
use Rattle.std.specs.Prelude.{◌≡◌, ◌↔◌, ◌&&◌, ◌||◌, ◌≤◌, ◌<◌, ℕ, Bool, true, false, List, [], Option, None, Some, IsSome, is_some, All, IfSome, ⊤, Vec, length, map, nat_lt, slice_get, unwrap_or}
use Rattle.std.specs.FinSet as set
use Rattle.std.specs.List.{AllByRecursion}
use Rattle.std.specs.declared.alloc.Global.{Global}
use Rattle.facet_solver_shape.specs.declared.shape.Field.{Field}
use Rattle.facet_solver_shape.specs.declared.shape.ShapeKind.{ShapeKind}
use Rattle.facet_solver_shape.specs.declared.shape.ShapeKind.TheVariants.{Enum, Struct}
use Rattle.facet_solver_shape.specs.declared.shape.Variant.{Variant}
use Rattle.facet_solver_shape.specs.Catalogues.{NamesEarlier}
use Rattle.facet_solver.specs.build.Build.{Catalogue, kind_at}
use Rattle.facet_solver.specs.build.Nested.{Entered, KeyPaths, Under, entered_view, has_fields, through_fields, under_kind, under_shape, under_variant}
use Rattle.facet_solver.specs.build.NestedNames.{Names, NamesLead, paths_of_names}
use Rattle.facet_solver.specs.declared.build.nested.by_name.FieldsByName.{FieldsByName}
use Rattle.facet_solver.specs.declared.build.nested.table.Earlier.{Earlier}
use Rattle.facet_solver.specs.declared.build.nested.table.Entry.{Entry}
use Rattle.facet_solver.specs.declared.build.nested.table.Wanted.{Wanted}

-- the variants of an enum; another kind has none
abbrev pub variants_of : ShapeKind → List Variant
variants_of (Enum variants) = variants.items
variants_of _ = []

-- the variant at an index of the enum whose index comes first
abbrev pub variant_at : Catalogue → ℕ → ℕ → Option Variant
variant_at cat id index = slice_get (variants_of (kind_at cat id)) index

-- whether the key paths through a field have those under its shape among them, if there are any
abbrev pub asks : Entered → Catalogue → Field → Bool
asks entered cat f =
    let kind = kind_at cat f.shape in
    (f.flattened || entered kind) && has_fields kind

-- what holds of the shape of a field that asks for the key paths under it
abbrev pub FieldAsks : (ℕ → Type 0) → Entered → Catalogue → Field → Type 0
FieldAsks Holds entered cat f = asks entered cat f ≡ true → Holds f.shape

-- the same of a variant's fields
abbrev pub VariantAsks : (ℕ → Type 0) → Entered → Catalogue → Variant → Type 0
VariantAsks Holds entered cat v = All (FieldAsks Holds entered cat) v.fields.items

-- the same of the fields of a kind of shape, in all its variants
abbrev pub KindAsks : (ℕ → Type 0) → Entered → Catalogue → ShapeKind → Type 0
KindAsks Holds entered cat (Struct kind fields) = All (FieldAsks Holds entered cat) fields.items
KindAsks Holds entered cat (Enum variants) = All (VariantAsks Holds entered cat) variants.items
KindAsks Holds entered cat _ = ⊤

-- whether a shape is marked; one past the end is not
abbrev pub is_marked : List Bool → ℕ → Bool
is_marked marks id = unwrap_or (slice_get marks id) false

-- a shape is marked
abbrev pub IsMarked : List Bool → ℕ → Type 0
IsMarked marks id = slice_get marks id ≡ Some true

-- all that is marked is marked in others too
abbrev pub MarksAmong : List Bool → List Bool → Type 0
MarksAmong marks others = (id : ℕ) → IsMarked marks id → IsMarked others id

-- marks were made below a limit, and none went
pub record IsMarkedMore (limit : ℕ) (old new : List Bool) : Type 0 where
  pub same_length : length new ≡ length old
  pub kept : MarksAmong old new
  pub below : (id : ℕ) → limit ≤ id → IsMarked new id → IsMarked old id

-- every shape is marked that one among others asks for
abbrev pub AskedBy : Entered → Catalogue → List Bool → List Bool → Type 0
AskedBy entered cat others marks =
    (id : ℕ) → IsMarked others id → KindAsks (IsMarked marks) entered cat (kind_at cat id)

-- every shape that a marked one asks for is marked
abbrev pub IsClosed : Entered → Catalogue → List Bool → Type 0
IsClosed entered cat marks = AskedBy entered cat marks marks

-- the key paths that fields by name stand for, from what is under the shapes behind each name
abbrev pub paths_by_name : Under → FieldsByName → KeyPaths
paths_by_name under fields = paths_of_names under fields.by_name.items

-- the shapes behind the names pass a test
abbrev pub LeadTo : (ℕ → Bool) → FieldsByName → Type 0
LeadTo passes fields = NamesLead passes fields.by_name.items

-- a part of an entry that may be past the end
abbrev pub part_of : {X : Type 0} → (Entry → Option X) → Option Entry → Option X
part_of part None = None
part_of part (Some entry) = part entry

-- the fields under the shape at an index, if its entry has them
abbrev pub under_at : List Entry → ℕ → Option FieldsByName
under_at entries id = part_of (λ entry. entry.under) (slice_get entries id)

-- those under each variant of the enum at an index, if its entry has them
abbrev pub variants_at : List Entry → ℕ → Option (Vec FieldsByName Global)
variants_at entries id = part_of (λ entry. entry.variants) (slice_get entries id)

-- whether the fields under the shape at an index are there
abbrev pub is_filled : List Entry → ℕ → Bool
is_filled entries id = is_some (under_at entries id)

-- the fields under the shape at an index are there
abbrev pub IsFilled : List Entry → ℕ → Type 0
IsFilled entries id = IsSome (under_at entries id)

-- those under the variants of the enum at an index are there
abbrev pub HasVariants : List Entry → ℕ → Type 0
HasVariants entries id = IsSome (variants_at entries id)

-- fields stand for the key paths under a kind of shape
abbrev pub StandsForKind : Entered → Catalogue → ShapeKind → FieldsByName → Type 0
StandsForKind entered cat kind fields = paths_by_name (under_shape entered cat) fields
    ≡ under_kind (through_fields entered cat) (under_variant entered cat) kind

-- fields stand, variant by variant, for the key paths under the variants of a kind of shape
abbrev pub StandForVariants : Entered → Catalogue → ShapeKind → Vec FieldsByName Global → Type 0
StandForVariants entered cat kind each = map (paths_by_name (under_shape entered cat)) each.items
    ≡ map (under_variant entered cat) (variants_of kind)

-- the shapes behind the names of each pass a test
abbrev pub AllLeadTo : (ℕ → Bool) → Vec FieldsByName Global → Type 0
AllLeadTo passes each = AllByRecursion (LeadTo passes) each.items

-- each entry stands for the key paths of the shape at its index
pub record AreEntries (entered : Entered) (cat : Catalogue) (entries : List Entry) : Type 0 where
  pub under : (id : ℕ) (fields : FieldsByName) → under_at entries id ≡ Some fields
      → StandsForKind entered cat (kind_at cat id) fields
  pub variants : (id : ℕ) (each : Vec FieldsByName Global) → variants_at entries id ≡ Some each
      → StandForVariants entered cat (kind_at cat id) each

-- each entry leads to earlier ones alone, where the fields under the shape are there
pub record LeadEarlier (entries : List Entry) : Type 0 where
  pub under : (id : ℕ) (fields : FieldsByName) → under_at entries id ≡ Some fields
      → LeadTo (λ t. nat_lt t id && is_filled entries t) fields
  pub variants : (id : ℕ) (each : Vec FieldsByName Global) → variants_at entries id ≡ Some each
      → AllLeadTo (λ t. nat_lt t id && is_filled entries t) each

-- the fields under a shape stand for the key paths under it, wherever they are there
abbrev pub EntriesStandFor : Under → List Entry → Type 0
EntriesStandFor under entries = (id : ℕ) (fields : FieldsByName)
    → under_at entries id ≡ Some fields → paths_by_name under fields ≡ under id

-- a catalogue is checked, and the entries are those of its shapes
pub record IsSound (earlier : Earlier) : Type 0 where
  pub checked : NamesEarlier earlier.shapes.now
  pub entries : AreEntries (entered_view earlier.entered) earlier.shapes.now earlier.entries.now
  pub leads : LeadEarlier earlier.entries.now

-- what is under a shape, as entries are made
abbrev pub under_of : Earlier → Under
under_of earlier = under_shape (entered_view earlier.entered) earlier.shapes.now

-- names that also stand for these key paths
pub record HasMore (earlier : Earlier) (paths : KeyPaths) (old new : Names) : Type 0 where
  pub stand : paths_of_names (under_of earlier) new
      ≡ set.union (paths_of_names (under_of earlier) old) paths
  pub lead : NamesLead (is_filled earlier.entries.now) old
      → NamesLead (is_filled earlier.entries.now) new

-- fields by name that stand for these key paths
pub record AreFieldsOf (earlier : Earlier) (paths : KeyPaths)
    (fields : FieldsByName) : Type 0 where
  pub stand : paths_by_name (under_of earlier) fields ≡ paths
  pub lead : LeadTo (is_filled earlier.entries.now) fields

-- fields by name that stand, variant by variant, for the key paths under these variants
pub record AreFieldsOfEach (earlier : Earlier) (variants : List Variant)
    (each : Vec FieldsByName Global) : Type 0 where
  pub stand : map (paths_by_name (under_of earlier)) each.items
      ≡ map (under_variant (entered_view earlier.entered) earlier.shapes.now) variants
  pub lead : AllLeadTo (is_filled earlier.entries.now) each

-- what is under a kind of shape
abbrev pub under_kind_of : Earlier → ShapeKind → KeyPaths
under_kind_of earlier kind =
    let entered = entered_view earlier.entered in
    let cat = earlier.shapes.now in
    under_kind (through_fields entered cat) (under_variant entered cat) kind

-- the entry of a kind of shape, with what is wanted of it, from earlier ones
pub record IsMade (earlier : Earlier) (wanted : Wanted) (kind : ShapeKind)
    (entry : Entry) : Type 0 where
  pub has_under : is_some entry.under ≡ wanted.under
  pub has_variants : is_some entry.variants ≡ wanted.variants
  pub under : IfSome entry.under (AreFieldsOf earlier (under_kind_of earlier kind))
  pub variants : IfSome entry.variants (AreFieldsOfEach earlier (variants_of kind))

-- the entries at the first indices: the marked shapes have the fields under them, those that are
-- apart have those under their variants, and no others do
pub record AreFirstEntries (entered : Entered) (cat : Catalogue) (marks apart : List Bool)
    (entries : List Entry) : Type 0 where
  pub within : length entries ≤ length marks
  pub each : AreEntries entered cat entries
  pub leads : LeadEarlier entries
  pub marked : (id : ℕ) → id < length entries → IsMarked marks id ↔ IsFilled entries id
  pub apart_marked : (id : ℕ) → id < length entries → IsMarked apart id ↔ HasVariants entries id
