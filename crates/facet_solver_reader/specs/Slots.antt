-- The indices of lists of parts, by their names.
use Rattle.std.specs.Prelude.{◌≡◌, ◌↔◌, ◌<◌, ℕ, List, Option, None, Some, IsSome, length, slice_get, option_and_then}
use Rattle.facet_solver_reader.specs.Parts.{ListId, of_struct, of_enum, of_joined, of_branch, of_fields}
use Rattle.facet_solver_shape.specs.Catalogues.{Catalogue}
use Rattle.facet_solver_reader.specs.ListShapes.{shape_of}
use Rattle.facet_solver_reader.specs.Types.{variants_at}
use Rattle.facet_solver_reader.specs.declared.tables.slots.ShapeSlots.{ShapeSlots}
use Rattle.facet_solver_reader.specs.declared.tables.slots.Slots.{Slots}

-- what the slots of a shape say
abbrev pub of_slots : (ShapeSlots → Option ℕ) → Slots → ℕ → Option ℕ
of_slots choose slots shape = option_and_then choose (slice_get slots.shapes.items shape)

-- the index in a list of them
abbrev pub at : ℕ → List (Option ℕ) → Option ℕ
at k indices = option_and_then (λ i. i) (slice_get indices k)

-- the index of a list of parts, if it has one
abbrev pub index_of : Slots → ListId → Option ℕ
index_of slots (of_struct shape) = of_slots (λ s. s.of_struct) slots shape
index_of slots (of_enum shape) = of_slots (λ s. s.of_enum) slots shape
index_of slots (of_joined shape) = of_slots (λ s. s.joined) slots shape
index_of slots (of_branch shape k) = of_slots (λ s. at k s.branches.items) slots shape
index_of slots (of_fields shape k) = of_slots (λ s. at k s.fields.items) slots shape

-- the slot of a list among those of its shape, with what stands there
abbrev pub slot_in : ListId → ShapeSlots → Option (Option ℕ)
slot_in (of_struct shape) s = Some s.of_struct
slot_in (of_enum shape) s = Some s.of_enum
slot_in (of_joined shape) s = Some s.joined
slot_in (of_branch shape k) s = slice_get s.branches.items k
slot_in (of_fields shape k) s = slice_get s.fields.items k

-- the slot of a list, with what stands there
abbrev pub slot_of : Slots → ListId → Option (Option ℕ)
slot_of slots id = option_and_then (slot_in id) (slice_get slots.shapes.items (shape_of id))

-- a list has a slot, in which its index stands if it has one
abbrev pub HasSlot : Slots → ListId → Type 0
HasSlot slots id = IsSome (slot_of slots id)

-- the catalogue has the shape of a list, and the variant if it is of one
abbrev pub IsOfCatalogue : Catalogue → ListId → Type 0
IsOfCatalogue shapes (of_branch shape k) =
    (shape < length shapes) × (k < length (variants_at shapes shape))
IsOfCatalogue shapes (of_fields shape k) =
    (shape < length shapes) × (k < length (variants_at shapes shape))
IsOfCatalogue shapes id = shape_of id < length shapes

-- no list has an index, and those of a catalogue have slots
pub record AreFree (shapes : Catalogue) (slots : Slots) : Type 0 where
  pub free : (id : ListId) → index_of slots id ≡ None
  pub slots_are : (id : ListId) → IsOfCatalogue shapes id → HasSlot slots id

-- so many slots, each with no index
abbrev pub AreNone : ℕ → List (Option ℕ) → Type 0
AreNone n xs = (k : ℕ) → k < n → slice_get xs k ≡ Some None

-- the slots of a shape of so many variants, each with no index
pub record AreFreeIn (variants : ℕ) (s : ShapeSlots) : Type 0 where
  pub of_struct : s.of_struct ≡ None
  pub of_enum : s.of_enum ≡ None
  pub joined : s.joined ≡ None
  pub branches : AreNone variants s.branches.items
  pub branches_are : length s.branches.items ≡ variants
  pub fields : AreNone variants s.fields.items
  pub fields_are : length s.fields.items ≡ variants

-- among the slots of a shape a list that has one is given the index, and no other slot changes
pub record IsSetIn (old : ShapeSlots) (id : ListId) (index : ℕ) (new : ShapeSlots) : Type 0 where
  pub given : IsSome (slot_in id old) → slot_in id new ≡ Some (Some index)
  pub lacking : slot_in id old ≡ None → slot_in id new ≡ None
  pub others : (q : ListId) → shape_of q ≡ shape_of id → (q ≡ id → ⊥)
      → slot_in q new ≡ slot_in q old

-- a list that has a slot is given the index, and nothing else changes
pub record IsSet (old : Slots) (id : ListId) (index : ℕ) (new : Slots) : Type 0 where
  pub given : HasSlot old id → index_of new id ≡ Some index
  pub lacking : (HasSlot old id → ⊥) → index_of new id ≡ None
  pub others : (q : ListId) → (q ≡ id → ⊥) → index_of new q ≡ index_of old q
  pub same_slots : (q : ListId) → HasSlot old q ↔ HasSlot new q
