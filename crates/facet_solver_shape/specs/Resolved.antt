-- A resolution: what one choice of variants resolves to. Its names are lists of bytes.
use Rattle.std.specs.Prelude.{if◌then◌else◌, ◌≡◌, ◌↔◌, ℕ, List, [], ◌∷◌, ◌++◌, true, Some, None, IsSome, IsSomeAnd, codes, find, map, ⊤, Option, Vec}
use Rattle.std.specs.Option.{option_or, option_map}
use Rattle.std.specs.Ordering.{nat_cmp}
use Rattle.std.specs.declared.cmp.Ordering.{Ordering}
use Rattle.std.specs.Cmp.Lexicographic.{slice_cmp}
use Rattle.std.specs.FinMap as finite
use Rattle.std.specs.FinSet as set
use Rattle.facet_solver_shape.specs.declared.resolution.key.FieldCategory.{FieldCategory}
use Rattle.facet_solver_shape.specs.Names.{Name, names_of}
use Rattle.facet_solver_shape.specs.Paths.{Segment}
use Rattle.facet_solver_shape.specs.Keys.{Key, key_cmp, category_cmp}
use Rattle.std.specs.List.{flat_map}
use denote.Bor.{Bor}
use Rattle.std.specs.declared.alloc.Global.{Global}
use Rattle.facet_solver_shape.specs.declared.resolution.field.VariantSelection.{VariantSelection}
use Rattle.facet_solver_shape.specs.declared.resolution.error.SchemaError.{SchemaError}
use Rattle.facet_solver_shape.specs.declared.resolution.error.SchemaError.TheVariants.{DuplicateField, OutOfMemory}
use Rattle.facet_solver_shape.specs.Fields.{FieldView, as_optional, has_name, key_of_field, matches}

-- a variant that was selected for an enum
pub record Selection : Type 0 where
  pub path : List Segment
  pub enum_name : Name
  pub variant_name : Name

-- what a selected variant says
abbrev pub selection_view : VariantSelection → Selection
selection_view v =
    record { path = v.path; enum_name = v.enum_name.now; variant_name = v.variant_name.now }

-- the text of a selection: its enum and its variant
abbrev pub selection_text : Selection → List ℕ
selection_text selection = selection.enum_name ++ (codes "::" ++ selection.variant_name)

-- the text of all selections, in order
abbrev pub description : List Selection → List ℕ
description [] = codes "(no variants)"
description (selection ∷ rest) =
    selection_text selection ++ flat_map (λ other. codes " + " ++ selection_text other) rest

-- a resolution
pub record Resolved : Type 0 where
  pub fields : finite.FinMap key_cmp FieldView
  pub required_names : set.FinSet (slice_cmp nat_cmp)
  pub key_paths : set.FinSet (slice_cmp (slice_cmp nat_cmp))
  pub selections : List Selection
  pub catch_alls : finite.FinMap category_cmp FieldView

-- names behind references, each once
abbrev pub names_view : List (Bor Name) → set.FinSet (slice_cmp nat_cmp)
names_view ns = set.from_list (names_of ns)

-- paths of such names, each once
abbrev pub key_paths_view : List (Vec (Bor Name) Global)
    → set.FinSet (slice_cmp (slice_cmp nat_cmp))
key_paths_view ps = set.from_list (map (λ p. names_of p.items) ps)

-- some field of the name is required
pub record IsRequiredName (fields : finite.FinMap key_cmp FieldView) (name : Name) : Type 0 where
  pub key : Key
  pub field : FieldView
  pub present : finite.get fields key ≡ Some field
  pub is_required : field.is_required ≡ true
  pub same_name : field.name ≡ name

-- the names are those of the required fields
abbrev pub AreRequiredNames : finite.FinMap key_cmp FieldView
    → set.FinSet (slice_cmp nat_cmp) → Type 0
AreRequiredNames fields names =
    (name : Name) → (set.contains names name ≡ true) ↔ IsRequiredName fields name

-- nothing in it
abbrev pub nothing : Resolved
nothing = record {
  fields = finite.empty;
  required_names = set.empty;
  key_paths = set.empty;
  selections = [];
  catch_alls = finite.empty;
}

-- with one more field
abbrev pub with_field : Resolved → FieldView → Resolved
with_field r f = record r {
  fields = finite.insert r.fields (key_of_field f) f;
  required_names = if f.is_required then set.insert r.required_names f.name else r.required_names;
}

-- new is old with the field f, whose key old had not
pub record IsAdded (old : Resolved) (f : FieldView) (new : Resolved) : Type 0 where
  pub fresh : finite.get old.fields (key_of_field f) ≡ None
  pub after : new ≡ with_field old f

-- of the fields that have a name, the one of least stored key
abbrev pub field_by_name : Name → Resolved → Option FieldView
field_by_name name r = find (has_name name) (finite.values r.fields)

-- of the fields that a key means, the one of least stored key
abbrev pub field_by_key : Key → Resolved → Option FieldView
field_by_key key r = find (matches key) (finite.values r.fields)

-- a refusal of one more field: its key is taken, and these are the name and the two paths
pub record IsFieldDuplicate
    (fields : finite.FinMap key_cmp FieldView) (f : FieldView) (name : Name)
    (first second : List Segment) : Type 0 where
  pub taken : IsSomeAnd (finite.get fields (key_of_field f)) (λ present. present.path ≡ first)
  pub same_name : name ≡ f.name
  pub same_path : second ≡ f.path

-- what a refusal of the field f says
abbrev pub IsRefusalOf : finite.FinMap key_cmp FieldView → FieldView → SchemaError → Type 0
IsRefusalOf fields f (DuplicateField d) =
    IsFieldDuplicate fields f d.field_name.now d.first_path d.second_path
IsRefusalOf fields f OutOfMemory = ⊤

-- with one more key path
abbrev pub with_key_path : Resolved → List Name → Resolved
with_key_path r path = record r { key_paths = set.insert r.key_paths path }

-- with one more selected variant, after the others
abbrev pub with_selection : Resolved → Selection → Resolved
with_selection r selection = record r { selections = r.selections ++ selection ∷ [] }

-- with a field that takes the members of a category that no other field takes, in place of an
-- earlier one
abbrev pub with_catch_all : Resolved → FieldCategory → FieldView → Resolved
with_catch_all r category f = record r { catch_alls = finite.insert r.catch_alls category f }

-- no key is in both
abbrev pub AreApart : finite.FinMap key_cmp FieldView → finite.FinMap key_cmp FieldView → Type 0
AreApart first second = (k : Key) → IsSome (finite.get first k) → finite.get second k ≡ None

-- made has what first or second has, and no key is in both
pub record IsUnionOf (first second made : finite.FinMap key_cmp FieldView) : Type 0 where
  pub apart : AreApart first second
  pub joined : (k : Key) → finite.get made k ≡ option_or (finite.get first k) (finite.get second k)

-- made has what upper has, and elsewhere what lower has
abbrev pub IsOverlaid : {K : Type 0} {R : K → K → Ordering}
    (lower upper made : finite.FinMap R FieldView) → Type 0
IsOverlaid {K} lower upper made =
    (k : K) → finite.get made k ≡ option_or (finite.get upper k) (finite.get lower k)

-- made has what old has and then what other has. No field of other has a key of old, and its
-- catch-alls take the place of old ones
pub record IsMerged (old other made : Resolved) : Type 0 where
  pub fields : IsUnionOf old.fields other.fields made.fields
  pub required_names : made.required_names ≡ set.union old.required_names other.required_names
  pub key_paths : made.key_paths ≡ set.union old.key_paths other.key_paths
  pub selections : made.selections ≡ old.selections ++ other.selections
  pub catch_alls : IsOverlaid old.catch_alls other.catch_alls made.catch_alls

-- the key of some field of other is taken in old, and these are its name and the two paths
pub record IsMergeDuplicate (old other : Resolved) (name : Name) (first second : List Segment)
    : Type 0 where
  pub field : FieldView
  pub among : finite.get other.fields (key_of_field field) ≡ Some field
  pub duplicate : IsFieldDuplicate old.fields field name first second

-- what a refusal of all that other has says
abbrev pub IsMergeRefusalOf : Resolved → Resolved → SchemaError → Type 0
IsMergeRefusalOf old other (DuplicateField d) =
    IsMergeDuplicate old other d.field_name.now d.first_path d.second_path
IsMergeRefusalOf old other OutOfMemory = ⊤

-- new is old with no field and no name required
pub record IsMadeOptional (old new : Resolved) : Type 0 where
  pub fields : (k : Key)
      → finite.get new.fields k ≡ option_map as_optional (finite.get old.fields k)
  pub others : new ≡ record old { fields = new.fields; required_names = set.empty }
