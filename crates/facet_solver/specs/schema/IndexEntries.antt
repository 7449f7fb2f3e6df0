-- The entries of an index.
use Rattle.std.specs.Prelude.{◌≡◌, ◌<◌, ◌||◌, ℕ, Bool, true, false, if◌then◌else◌, IsTrue, List, [], MatchOption, Option, Some, None, filter, nat_eq}
use Rattle.std.specs.BTreeMap.{BTreeMap, get_by}
use Rattle.std.specs.Cmp.Lexicographic.{slice_cmp}
use Rattle.std.specs.List.{list_any}
use Rattle.std.specs.Option.{ForSome, option_map, option_map_or}
use Rattle.std.specs.Ordering.{nat_cmp}
use denote.Bor.{Bor}
use Rattle.facet_solver_shape.specs.declared.resolution.key.FieldCategory.{FieldCategory}
use Rattle.facet_solver_shape.specs.declared.resolution.key.FieldCategory.TheVariants.{Flat, Attribute, Element, Text, Tag, Elements}
use Rattle.facet_solver_shape.specs.Names.{Name}
use Rattle.facet_solver.specs.set.IndexSet.{IndexSet, has_index, upto}
use Rattle.facet_solver.specs.schema.FewShapes.{few_shapes_with}
use Rattle.facet_solver.specs.schema.Selected.{HasSetsBelow, SelectsMore, selects}
use Rattle.facet_solver.specs.schema.Slots.{Slot}
use Rattle.facet_solver.specs.declared.schema.index.category_index.CategoryIndex.{CategoryIndex}
use Rattle.facet_solver.specs.declared.schema.index.entry.Entry.{Entry}
use Rattle.facet_solver.specs.declared.schema.index.Index.{Index}
use Rattle.facet_solver.specs.declared.schema.index.entry.Occurrence.{Occurrence}
use Rattle.facet_solver.specs.declared.schema.index.selected.Selected.TheVariants.{Same}

-- the entry of a name
abbrev pub named_entry : BTreeMap (Bor Name) Entry → Name → Option Entry
named_entry named name = get_by (λ k. slice_cmp nat_cmp name k.now) named

-- the entry of a name, or that of every name
abbrev pub entry_in : CategoryIndex → Option Name → Option Entry
entry_in t None = t.all
entry_in t (Some name) = named_entry t.named name

-- the entries of a category
abbrev pub category_of : Index → FieldCategory → CategoryIndex
category_of index Flat = index.flat
category_of index Attribute = index.attributes
category_of index Element = index.elements
category_of index Text = index.texts
category_of index Tag = index.tags
category_of index Elements = index.lists

-- the entry of a slot
abbrev pub entry_at : Index → Slot → Option Entry
entry_at index slot = entry_in (category_of index slot.category) slot.name

-- whether an entry has a resolution; where there is none, it has not
abbrev pub holds : Option Entry → ℕ → Bool
holds entry index = option_map_or (λ e. has_index e.set.members index) entry false

-- the resolutions of the entry of a slot
abbrev pub set_at : Index → Slot → Option IndexSet
set_at index slot = option_map (λ e. e.set) (entry_at index slot)

-- whether one of some sets has a resolution
abbrev pub is_held : List (Bor IndexSet) → ℕ → Bool
is_held sets index = list_any (λ set. has_index set.now.members index) sets

-- the sets of an entry, if there is one, are over the numbers below a bound
abbrev pub HasBound : ℕ → Option Entry → Type 0
HasBound bound entry =
    ForSome entry (λ (e : Entry). (e.set.bound ≡ bound) × HasSetsBelow bound e.selected)

-- whether a resolution of an entry selects a variant, or none
abbrev pub selects_in : Entry → Option Name → ℕ → Bool
selects_in e variant index = selects e.selected e.set.members variant index

-- a set with one more number
abbrev pub with_number : IndexSet → ℕ → IndexSet
with_number set i =
    record set { members = filter (λ j. nat_eq j i || has_index set.members j) (upto set.bound) }

-- a shape, where it is the one given
abbrev pub agreed : Option ℕ → ℕ → Option ℕ
agreed None shape = None
agreed (Some known) shape = if nat_eq known shape then Some known else None

-- the shapes after one more, where they do not agree
abbrev pub shapes_with : Option ℕ → List ℕ → ℕ → List ℕ
shapes_with None shapes shape = few_shapes_with shapes shape
shapes_with (Some known) shapes shape =
    if nat_eq known shape then shapes
    else few_shapes_with (few_shapes_with shapes known) shape

-- two sets of resolutions of an entry: those that select the variant of a name, and others that
-- make up with them those that select no other
pub record AreSelecting (variant : Name) (e : Entry) (named others : IndexSet) : Type 0 where
  pub named_bound : named.bound ≡ e.set.bound
  pub others_bound : others.bound ≡ e.set.bound
  pub is_named : (i : ℕ) → i < e.set.bound
      → has_index named.members i ≡ selects_in e (Some variant) i
  pub is_other : (i : ℕ) → i < e.set.bound
      → (has_index named.members i || has_index others.members i)
      ≡ (selects_in e (Some variant) i || selects_in e None i)

-- the entry of one resolution
abbrev pub entry_of_one : Occurrence → Entry
entry_of_one at = record {
  set = with_number (record { bound = at.bound; members = [] }) at.index;
  shape = Some at.shape;
  shapes = [];
  selected = Same at.variant;
}

-- an entry after a resolution that it did not have
pub record HasOneMore (before : Entry) (at : Occurrence) (after : Entry) : Type 0 where
  pub set : after.set ≡ with_number before.set at.index
  pub shape : after.shape ≡ agreed before.shape at.shape
  pub shapes : after.shapes ≡ shapes_with before.shape before.shapes at.shape
  pub below : HasSetsBelow at.bound after.selected
  pub selected : SelectsMore at (selects_in before) (selects_in after)

-- an entry after one more field. Of a resolution that it has the field that came first is meant
pub record IsAfter (before : Entry) (at : Occurrence) (after : Entry) : Type 0 where
  pub known : IsTrue (has_index before.set.members at.index) → after ≡ before
  pub new : has_index before.set.members at.index ≡ false → HasOneMore before at after

-- an entry after one more field, where there may have been none
abbrev pub IsAdded : Option Entry → Occurrence → Entry → Type 0
IsAdded None at after = after ≡ entry_of_one at
IsAdded (Some before) at after = IsAfter before at after

-- the entry of a slot after one more field, which stands there or does not
abbrev pub IsSlotAfter : Bool → Occurrence → Option Entry → Option Entry → Type 0
IsSlotAfter true at before after = MatchOption after ⊥ (IsAdded before at)
IsSlotAfter false at before after = after ≡ before
