-- What the entries of an index say of the resolutions.
use Rattle.std.specs.Prelude.{◌≡◌, ◌≢◌, ◌<◌, ◌≤◌, ℕ, Bool, List, Option, Some, None, MatchOption, All, false, IsTrue, filter, find, is_some, length, map, slice_get}
use Rattle.std.specs.FinMap as finite
use Rattle.std.specs.Option.{option_and_then, option_map_or}
use Rattle.facet_solver_shape.specs.declared.resolution.key.FieldCategory.{FieldCategory}
use Rattle.facet_solver_shape.specs.declared.resolution.key.FieldCategory.TheVariants.{Flat as FlatCategory}
use Rattle.facet_solver_shape.specs.Fields.{FieldView}
use Rattle.facet_solver_shape.specs.Names.{Name}
use Rattle.facet_solver_shape.specs.Resolved.{Resolved}
use Rattle.facet_solver.specs.set.IndexSet.{upto}
use Rattle.facet_solver.specs.solver.Tag.{last_variant}
use Rattle.facet_solver.specs.schema.IndexEntries.{entry_at, selects_in}
use Rattle.facet_solver.specs.schema.FewShapes.{has_shape, most_shapes}
use Rattle.facet_solver.specs.schema.Selected.{HasSetsBelow, same_variant}
use Rattle.facet_solver.specs.schema.Slots.{Slot, is_at}
use Rattle.facet_solver.specs.declared.build.format.Format.{Format}
use Rattle.facet_solver.specs.declared.build.format.Format.TheVariants.{Flat, Dom}
use Rattle.facet_solver.specs.declared.schema.index.entry.Entry.{Entry}
use Rattle.facet_solver.specs.declared.schema.index.Index.{Index}

-- the field that is meant in each resolution, by its number, if there is one
abbrev pub Meant : Type 0
Meant = ℕ → Option FieldView

-- the fields that are meant have one shape, and there is one
pub record AgreesOn (shape : ℕ) (meant : Meant) : Type 0 where
  pub index : ℕ
  pub field : FieldView
  pub present : meant index ≡ Some field
  pub same : field.shape ≡ shape
  pub all : (i : ℕ) (f : FieldView) → meant i ≡ Some f → f.shape ≡ shape

-- two of the fields that are meant have different shapes
pub record Differs (meant : Meant) : Type 0 where
  pub first : ℕ
  pub second : ℕ
  pub one : FieldView
  pub other : FieldView
  pub one_present : meant first ≡ Some one
  pub other_present : meant second ≡ Some other
  pub apart : one.shape ≢ other.shape

-- whether the field that is meant in a resolution selects a variant, or none
abbrev pub selects_at : Meant → Option Name → ℕ → Bool
selects_at meant variant index =
    option_map_or (λ f. same_variant (last_variant f.path) variant) (meant index) false

-- an entry has, of the resolutions below a bound, those that select each variant, and none
abbrev pub AreSelected : ℕ → Meant → Entry → Type 0
AreSelected bound meant entry = (variant : Option Name) (index : ℕ) → index < bound
    → selects_in entry variant index ≡ selects_at meant variant index

-- some shapes have that of each field that is meant
abbrev pub HaveShapesOf : Meant → List ℕ → Type 0
HaveShapesOf meant shapes =
    (index : ℕ) (f : FieldView) → meant index ≡ Some f → IsTrue (has_shape shapes f.shape)

-- where the fields that are meant have different shapes, and few, an entry has these
abbrev pub HasFewShapes : Meant → Entry → Type 0
HasFewShapes meant entry = entry.shape ≡ None → length entry.shapes ≤ most_shapes
    → HaveShapesOf meant entry.shapes

-- an entry has the resolutions below a bound in which a field is meant, the shape of these fields,
-- if they agree on it, or all their shapes, if these are few, and those that select each variant
pub record IsIndexEntry (bound : ℕ) (meant : Meant) (entry : Entry) : Type 0 where
  pub set : entry.set
      ≡ record { bound = bound; members = filter (λ i. is_some (meant i)) (upto bound) }
  pub shape : MatchOption entry.shape (Differs meant) (λ shape. AgreesOn shape meant)
  pub shapes : HasFewShapes meant entry
  pub below : HasSetsBelow bound entry.selected
  pub selected : AreSelected bound meant entry

-- there is an entry, or no field is meant
abbrev pub IsEntryIfAny : ℕ → Meant → Option Entry → Type 0
IsEntryIfAny bound meant entry =
    MatchOption entry ((i : ℕ) → meant i ≡ None) (IsIndexEntry bound meant)

-- the first field that passes a test, of the fields of each resolution
abbrev pub first_passing : (FieldView → Bool) → List (List FieldView) → Meant
first_passing test lists i = option_and_then (find test) (slice_get lists i)

-- the fields of each resolution, in the order of their stored keys
abbrev pub fields_of_each : List Resolved → List (List FieldView)
fields_of_each resolutions = map (λ r. finite.values r.fields) resolutions

-- the entry of each slot is that of the fields that stand there
abbrev pub IsIndexOf : ℕ → List (List FieldView) → Index → Type 0
IsIndexOf bound lists index =
    (slot : Slot) → IsEntryIfAny bound (first_passing (is_at slot) lists) (entry_at index slot)

-- whether a field may have the category in a format: names alone have none, and in categories each
-- field has one
abbrev pub IsOfFormat : Format → FieldCategory → Type 0
IsOfFormat Flat category = category ≡ FlatCategory
IsOfFormat Dom category = category ≢ FlatCategory

-- the fields of a resolution are of the format
abbrev pub HasFormat : Format → Resolved → Type 0
HasFormat format r = All (λ f. IsOfFormat format f.category) (finite.values r.fields)

-- the fields of each resolution are
abbrev pub AreOfFormat : Format → List Resolved → Type 0
AreOfFormat format resolutions = All (HasFormat format) resolutions
