-- What makes a list of shapes a catalogue: what its shapes refer to, and the faults that they may
-- have.
use Rattle.std.specs.Prelude.{◌≡◌, ℕ, ◌<◌, List, [], ◌∷◌, ◌++◌, map, ⊤, Option, Some, None, slice_get, Any, ◌≤◌, ◌⊎◌, length, IsSomeAnd, codes}
use Rattle.std.specs.Option.{option_to_list, IfSome}
use Rattle.std.specs.List.{flat_map}
use Rattle.std.specs.Fmt.{decimal}
use Rattle.facet_solver_shape.specs.declared.shape.Shape.{Shape}
use Rattle.facet_solver_shape.specs.declared.shape.Field.{Field}
use Rattle.facet_solver_shape.specs.declared.shape.Variant.{Variant}
use Rattle.facet_solver_shape.specs.declared.shape.ShapeKind.{ShapeKind}
use Rattle.facet_solver_shape.specs.declared.shape.ShapeKind.TheVariants.{Struct, Enum, Option as OptionOf, Pointer, List as ListOf, Array, Slice, Set, Map, Other}
use Rattle.facet_solver_shape.specs.Names.{Name, field_names, variant_names}
use Rattle.facet_solver_shape.specs.declared.shape.catalogue.CatalogueError.{CatalogueError}
use Rattle.facet_solver_shape.specs.declared.shape.catalogue.CatalogueError.TheVariants.{OutOfRange, NotEarlier, PointerCycle, DuplicateFieldName, DuplicateVariantName}
use Rattle.facet_solver_shape.specs.Pointers.{NeverEnds}

-- a catalogue: a list of shapes, which refer to one another by their indices
abbrev pub Catalogue : Type 0
Catalogue = List Shape

-- the kind of a shape that may be absent
abbrev pub kind_of : Option Shape → ShapeKind
kind_of None = Other
kind_of (Some s) = s.kind

-- the kind of the shape at an index
abbrev pub kind_at : Catalogue → ℕ → ShapeKind
kind_at cat id = kind_of (slice_get cat id)

-- by fields
abbrev pub field_indices : List Field → List ℕ
field_indices fields = map (λ f. f.shape) fields

-- by a kind, where the index has to be an earlier one: fields, fields of variants, the inside of an
-- option
abbrev pub early_indices_of_kind : ShapeKind → List ℕ
early_indices_of_kind (Struct kind fields) = field_indices fields.items
early_indices_of_kind (Enum variants) = flat_map (λ v. field_indices v.fields.items) variants.items
early_indices_of_kind (OptionOf inside) = inside ∷ []
early_indices_of_kind _ = []

-- by a kind, where any index of the catalogue will do: pointees, items, keys and values
abbrev pub late_indices_of_kind : ShapeKind → List ℕ
late_indices_of_kind (Pointer pointee) = option_to_list pointee
late_indices_of_kind (ListOf item) = item ∷ []
late_indices_of_kind (Array item) = item ∷ []
late_indices_of_kind (Slice item) = item ∷ []
late_indices_of_kind (Set item) = item ∷ []
late_indices_of_kind (Map key value) = key ∷ value ∷ []
late_indices_of_kind _ = []

-- all that has to be earlier
abbrev pub early_indices : Shape → List ℕ
early_indices s = early_indices_of_kind s.kind ++ (option_to_list s.inner ++ option_to_list s.proxy)

-- all that a shape names
abbrev pub named_indices : Shape → List ℕ
named_indices s = early_indices s ++ late_indices_of_kind s.kind

-- each field refers to an index below another
abbrev pub FieldsBelow : ℕ → List Field → Type 0
FieldsBelow index [] = ⊤
FieldsBelow index (f ∷ fs) = (f.shape < index) × FieldsBelow index fs

-- each field of each variant does
abbrev pub VariantsBelow : ℕ → List Variant → Type 0
VariantsBelow index [] = ⊤
VariantsBelow index (v ∷ vs) = FieldsBelow index v.fields.items × VariantsBelow index vs

-- what a kind names that has to be earlier is below an index
abbrev pub KindBelow : ℕ → ShapeKind → Type 0
KindBelow index (Struct kind fields) = FieldsBelow index fields.items
KindBelow index (Enum variants) = VariantsBelow index variants.items
KindBelow index (OptionOf inside) = inside < index
KindBelow index _ = ⊤

-- what a shape at index names that has to be earlier is below it
pub record IsEarlierThan (index : ℕ) (s : Shape) : Type 0 where
  pub kind : KindBelow index s.kind
  pub inner : IfSome s.inner (λ p. p < index)
  pub proxy : IfSome s.proxy (λ p. p < index)

-- what the shapes of a list name that has to be earlier is below their own indices
abbrev pub NamesEarlier : List Shape → Type 0
NamesEarlier shapes =
    (index : ℕ) (s : Shape) → slice_get shapes index ≡ Some s → IsEarlierThan index s

-- one name stands at two indices of a list
pub record RepeatsName (names : List Name) : Type 0 where
  pub name : Name
  pub first : ℕ
  pub second : ℕ
  pub apart : first < second
  pub at_first : slice_get names first ≡ Some name
  pub at_second : slice_get names second ≡ Some name

-- one name stands in both lists
pub record SharesName (names others : List Name) : Type 0 where
  pub name : Name
  pub first : ℕ
  pub second : ℕ
  pub at_first : slice_get names first ≡ Some name
  pub at_second : slice_get others second ≡ Some name

-- two fields of a struct, or of one variant, have one declared name
abbrev pub RepeatsFieldName : ShapeKind → Type 0
RepeatsFieldName (Struct kind fields) = RepeatsName (field_names fields.items)
RepeatsFieldName (Enum variants) =
    Any (λ v. RepeatsName (field_names v.fields.items)) variants.items
RepeatsFieldName _ = ⊥

-- two variants have one name
abbrev pub RepeatsVariantName : ShapeKind → Type 0
RepeatsVariantName (Enum variants) = RepeatsName (variant_names variants.items)
RepeatsVariantName _ = ⊥

-- the index of the shape that an error speaks of
abbrev pub shape_of : CatalogueError → ℕ
shape_of (OutOfRange index) = index
shape_of (NotEarlier index) = index
shape_of (PointerCycle index) = index
shape_of (DuplicateFieldName index) = index
shape_of (DuplicateVariantName index) = index

-- the number of a refusal
abbrev pub number_of : CatalogueError → ℕ
number_of (OutOfRange index) = 1
number_of (NotEarlier index) = 2
number_of (PointerCycle index) = 3
number_of (DuplicateFieldName index) = 4
number_of (DuplicateVariantName index) = 5

-- what a shape with the fault does
abbrev pub fault_text : CatalogueError → List ℕ
fault_text (OutOfRange index) = codes "names an index past the last shape"
fault_text (NotEarlier index) = codes "names a shape that does not come before it"
fault_text (PointerCycle index) = codes "is a pointer that comes to no end"
fault_text (DuplicateFieldName index) = codes "has two fields of one name"
fault_text (DuplicateVariantName index) = codes "has two variants of one name"

-- the text of a refusal: the index of the shape, what it does, and the number
abbrev pub refusal_text : CatalogueError → List ℕ
refusal_text e =
    codes "the shape at index " ++ (decimal (shape_of e) ++ (codes " " ++ (fault_text e
    ++ (codes " (refusal " ++ (decimal (number_of e) ++ codes ")")))))

-- s refers to an index that a list of count shapes has not
abbrev pub NamesPast : ℕ → Shape → Type 0
NamesPast count s = Any (λ p. count ≤ p) (named_indices s)

-- s, which stands at index, names one of count indices that has to be earlier and is not
abbrev pub NamesLater : ℕ → ℕ → Shape → Type 0
NamesLater count index s = Any (λ p. (index ≤ p) × (p < count)) (early_indices s)

-- the shape at the error's index has the error's fault. A way of pointees that never ends begins at
-- a pointer of the list, for nothing else leads on
abbrev pub HasFault : List Shape → CatalogueError → Type 0
HasFault shapes (OutOfRange index) = IsSomeAnd (slice_get shapes index) (NamesPast (length shapes))
HasFault shapes (NotEarlier index) =
    IsSomeAnd (slice_get shapes index) (NamesLater (length shapes) index)
HasFault shapes (PointerCycle index) = NeverEnds shapes index
HasFault shapes (DuplicateFieldName index) =
    IsSomeAnd (slice_get shapes index) (λ s. RepeatsFieldName s.kind)
HasFault shapes (DuplicateVariantName index) =
    IsSomeAnd (slice_get shapes index) (λ s. RepeatsVariantName s.kind)

-- d stands at an earlier index than e, or at the same and has a lower number
abbrev pub ComesBefore : CatalogueError → CatalogueError → Type 0
ComesBefore d e =
    (shape_of d < shape_of e) ⊎ ((shape_of d ≡ shape_of e) × (number_of d < number_of e))

-- no shape has a fault
pub record IsChecked (shapes : List Shape) : Type 0 where
  pub faultless : (e : CatalogueError) → ¬ HasFault shapes e

-- e is a fault, and no fault comes before it
pub record IsFirstFault (shapes : List Shape) (e : CatalogueError) : Type 0 where
  pub present : HasFault shapes e
  pub first : (d : CatalogueError) → ComesBefore d e → ¬ HasFault shapes d

-- the shape at the index has no fault
pub record IsFaultlessAt (shapes : List Shape) (index : ℕ) : Type 0 where
  pub none : (d : CatalogueError) → shape_of d ≡ index → ¬ HasFault shapes d

-- e is the fault of lowest number at the index
pub record IsLowestFaultAt (shapes : List Shape) (index : ℕ) (e : CatalogueError) : Type 0 where
  pub here : shape_of e ≡ index
  pub present : HasFault shapes e
  pub lowest : (d : CatalogueError) → shape_of d ≡ index → number_of d < number_of e
      → ¬ HasFault shapes d
