-- The slots of lists: which there are, and what stands in them.
use Rattle.std.proofs.Common.{◌≡◌, ◌⊎◌, ◌↔◌, inl, inr, ap, sym, ◌∙◌, subst, ⊎_elim, ℕ, zero, suc}
use Rattle.std.proofs.Common.{◌<◌, ◌≤◌, ◌+◌, List, [], ◌∷◌, ◌++◌, length, length-append, set, get_or, slice_get}
use Rattle.std.proofs.Common.{Option, Some, None, refl, arith}
use Rattle.std.specs.Prelude.{IsSome, option_and_then}
use Rattle.std.proofs.lemmas.Option.{same_Some, slice_get_read, slice_get_within}
use Rattle.facet_solver_reader.proofs.Opened.{at_front}
use Rattle.facet_solver_shape.specs.Catalogues.{Catalogue}
use Rattle.facet_solver_reader.specs.declared.tables.slots.ShapeSlots.{ShapeSlots}
use Rattle.facet_solver_reader.specs.declared.tables.slots.Slots.{Slots}
use Rattle.facet_solver_reader.specs.ListShapes.{shape_of}
use Rattle.facet_solver_reader.specs.Parts.{ListId, of_struct, of_enum, of_joined, of_branch, of_fields}
use Rattle.facet_solver_reader.specs.Slots.{AreFree, AreFreeIn, AreNone, HasSlot, IsOfCatalogue, IsSet, IsSetIn}
use Rattle.facet_solver_reader.specs.Slots.{at, index_of, slot_in, slot_of}
use Rattle.facet_solver_reader.specs.Types.{variants_at}

-- the slots of the first shapes, each with no index
pub record AreFreeUpto (shapes : Catalogue) (slots : List ShapeSlots) (n : ℕ) : Type 0 where
  pub length_is : length slots ≡ n
  pub each : (shape : ℕ) → shape < n
      → (s : ShapeSlots) × (slice_get slots shape ≡ Some s)
      × AreFreeIn (length (variants_at shapes shape)) s

module _ {A : Type 0} where
  -- an element that is written is there
  pub get_set : (xs : List A) (i : ℕ) (v : A) → i < length xs → slice_get (set xs i v) i ≡ Some v
  get_set [] i v h = absurd (omega arith)
  get_set (x ∷ xs) zero v h = refl
  get_set (x ∷ xs) (suc i) v h = get_set xs i v (omega arith)

  -- and each other one stays
  pub get_set_other : (xs : List A) (i j : ℕ) (v : A) → (j ≡ i → ⊥)
      → slice_get (set xs i v) j ≡ slice_get xs j
  get_set_other [] i j v ne = refl
  get_set_other (x ∷ xs) zero zero v ne = absurd (ne refl)
  get_set_other (x ∷ xs) zero (suc j) v ne = refl
  get_set_other (x ∷ xs) (suc i) zero v ne = refl
  get_set_other (x ∷ xs) (suc i) (suc j) v ne =
      get_set_other xs i j v (λ e. ne (ap suc e))

  -- what is there
  pub is_there : (o : Option A) (a : A) → o ≡ Some a → IsSome o
  is_there o a e = subst IsSome (sym e) refl

  -- nothing is there
  pub none_there : (o : Option A) → (IsSome o → ⊥) → o ≡ None
  none_there None h = refl
  none_there (Some a) h = absurd (h refl)

  -- what follows from nothing or from what gives nothing is nothing
  pub none_after : {B : Type 0} (f : A → Option B) (o : Option A)
      → ((a : A) → o ≡ Some a → f a ≡ None) → option_and_then f o ≡ None
  none_after f None h = refl
  none_after f (Some a) h = h a refl

  -- a step after a step
  after_after : {B : Type 0} (f : A → Option (Option B)) (g : A → Option B)
      → ((a : A) → g a ≡ option_and_then (λ i. i) (f a)) → (o : Option A)
      → option_and_then g o ≡ option_and_then (λ i. i) (option_and_then f o)
  after_after f g h None = refl
  after_after f g h (Some a) = h a

-- nothing is not something
not_none : (A : Type 0) → IsSome {T = A} None → ⊥
not_none A h = cc

-- two numbers are one or not
pub same_number : (a b : ℕ) → (a ≡ b) ⊎ (a ≡ b → ⊥)
same_number zero zero = inl refl
same_number zero (suc b) = inr (λ e. absurd (omega arith))
same_number (suc a) zero = inr (λ e. absurd (omega arith))
same_number (suc a) (suc b) =
    ⊎_elim (λ (e : a ≡ b). inl (ap suc e)) (λ (n : a ≡ b → ⊥). inr (λ e. n (omega arith)))
    (same_number a b)

-- two lists are one or not
pub same_list : (p q : ListId) → (p ≡ q) ⊎ (p ≡ q → ⊥)
same_list (of_struct a) (of_struct b) =
    ⊎_elim (λ (e : a ≡ b). inl (ap of_struct e)) (λ (n : a ≡ b → ⊥). inr (λ e. n (cc)))
    (same_number a b)
same_list (of_enum a) (of_enum b) =
    ⊎_elim (λ (e : a ≡ b). inl (ap of_enum e)) (λ (n : a ≡ b → ⊥). inr (λ e. n (cc)))
    (same_number a b)
same_list (of_joined a) (of_joined b) =
    ⊎_elim (λ (e : a ≡ b). inl (ap of_joined e)) (λ (n : a ≡ b → ⊥). inr (λ e. n (cc)))
    (same_number a b)
same_list (of_branch a k) (of_branch b l) =
    ⊎_elim
    (λ (e : a ≡ b).
    ⊎_elim (λ (f : k ≡ l). inl (cc)) (λ (n : k ≡ l → ⊥). inr (λ g. n (cc))) (same_number k l))
    (λ (n : a ≡ b → ⊥). inr (λ e. n (cc)))
    (same_number a b)
same_list (of_fields a k) (of_fields b l) =
    ⊎_elim
    (λ (e : a ≡ b).
    ⊎_elim (λ (f : k ≡ l). inl (cc)) (λ (n : k ≡ l → ⊥). inr (λ g. n (cc))) (same_number k l))
    (λ (n : a ≡ b → ⊥). inr (λ e. n (cc)))
    (same_number a b)
same_list p q = inr (λ e. cc)

-- the index of a list is what stands in its slot
pub index_of_slot : (slots : Slots) (id : ListId)
    → index_of slots id ≡ option_and_then (λ i. i) (slot_of slots id)
index_of_slot slots (of_struct shape) =
    after_after (slot_in (of_struct shape)) (λ s. s.of_struct) (λ s. refl)
    (slice_get slots.shapes.items shape)
index_of_slot slots (of_enum shape) =
    after_after (slot_in (of_enum shape)) (λ s. s.of_enum) (λ s. refl)
    (slice_get slots.shapes.items shape)
index_of_slot slots (of_joined shape) =
    after_after (slot_in (of_joined shape)) (λ s. s.joined) (λ s. refl)
    (slice_get slots.shapes.items shape)
index_of_slot slots (of_branch shape k) =
    after_after (slot_in (of_branch shape k)) (λ s. at k s.branches.items) (λ s. refl)
    (slice_get slots.shapes.items shape)
index_of_slot slots (of_fields shape k) =
    after_after (slot_in (of_fields shape k)) (λ s. at k s.fields.items) (λ s. refl)
    (slice_get slots.shapes.items shape)

module _ (shapes : Catalogue) (slots : Slots) (n : ℕ)
    (upto : AreFreeUpto shapes slots.shapes.items n) where
  -- each shape that has slots has free ones
  free_at : (shape : ℕ) (s : ShapeSlots) → slice_get slots.shapes.items shape ≡ Some s
      → AreFreeIn (length (variants_at shapes shape)) s
  free_at shape s e =
      let within : shape < length slots.shapes.items =
      slice_get_within slots.shapes.items shape s e in
      let each = upto.each shape (subst (λ m. shape < m) upto.length_is within) in
      subst (AreFreeIn (length (variants_at shapes shape)))
      (same_Some each.0 s (sym each.1 ∙ e)) each.2

  -- nothing stands in slots that have no index
  none_at : (m k : ℕ) (xs : List (Option ℕ)) → AreNone m xs → length xs ≡ m → at k xs ≡ None
  none_at m k xs free is =
      none_after (λ i. i) (slice_get xs k) (λ o e.
      let within : k < length xs = slice_get_within xs k o e in
      same_Some o None (sym e ∙ free k (subst (λ l. k < l) is within)))

  -- so no list has an index
  all_free : (id : ListId) → index_of slots id ≡ None
  all_free (of_struct shape) =
      none_after (λ s. s.of_struct) (slice_get slots.shapes.items shape)
      (λ s e. (free_at shape s e).of_struct)
  all_free (of_enum shape) =
      none_after (λ s. s.of_enum) (slice_get slots.shapes.items shape)
      (λ s e. (free_at shape s e).of_enum)
  all_free (of_joined shape) =
      none_after (λ s. s.joined) (slice_get slots.shapes.items shape)
      (λ s e. (free_at shape s e).joined)
  all_free (of_branch shape k) =
      none_after (λ s. at k s.branches.items) (slice_get slots.shapes.items shape)
      (λ s e.
      let f = free_at shape s e in
      none_at (length (variants_at shapes shape)) k s.branches.items f.branches f.branches_are)
  all_free (of_fields shape k) =
      none_after (λ s. at k s.fields.items) (slice_get slots.shapes.items shape)
      (λ s e.
      let f = free_at shape s e in
      none_at (length (variants_at shapes shape)) k s.fields.items f.fields f.fields_are)

  -- a shape that has slots has the slot of each of its lists
  slot_there : (id : ListId) (o : Option ℕ) (s : ShapeSlots)
      → slice_get slots.shapes.items (shape_of id) ≡ Some s
      → slot_in id s ≡ Some o → HasSlot slots id
  slot_there id o s e f =
      is_there (slot_of slots id) o (ap (option_and_then (slot_in id)) e ∙ f)

  -- the lists of a catalogue have slots
  all_slots : length shapes ≤ n → (id : ListId) → IsOfCatalogue shapes id → HasSlot slots id
  all_slots past (of_struct shape) h =
      let t = upto.each shape (omega arith) in
      slot_there (of_struct shape) t.0.of_struct t.0 t.1 refl
  all_slots past (of_enum shape) h =
      let t = upto.each shape (omega arith) in
      slot_there (of_enum shape) t.0.of_enum t.0 t.1 refl
  all_slots past (of_joined shape) h =
      let t = upto.each shape (omega arith) in
      slot_there (of_joined shape) t.0.joined t.0 t.1 refl
  all_slots past (of_branch shape k) h =
      let t = upto.each shape (omega arith) in
      slot_there (of_branch shape k) None t.0 t.1 (t.2.branches k h.1)
  all_slots past (of_fields shape k) h =
      let t = upto.each shape (omega arith) in
      slot_there (of_fields shape k) None t.0 t.1 (t.2.fields k h.1)

  -- the slots of all shapes are free
  pub free_for_all : length shapes ≤ n → AreFree shapes slots
  free_for_all past = record { free = all_free; slots_are = all_slots past }

-- the last element
pub at_end : {A : Type 0} (xs : List A) (x : A) → slice_get (xs ++ x ∷ []) (length xs) ≡ Some x
at_end [] x = refl
at_end (y ∷ xs) x = at_end xs x

-- one shape more has its slots
pub free_for_more : (shapes : Catalogue) (slots : List ShapeSlots) (n : ℕ) (s : ShapeSlots)
    → AreFreeUpto shapes slots n → AreFreeIn (length (variants_at shapes n)) s
    → AreFreeUpto shapes (slots ++ s ∷ []) (n + 1)
free_for_more shapes slots n s upto free = record {
  length_is = length-append slots (s ∷ []) ∙ ap (λ m. m + 1) upto.length_is;
  each = λ shape h. go shape (same_number shape n) h;
}
  where
    go : (shape : ℕ) → (shape ≡ n) ⊎ (shape ≡ n → ⊥) → shape < n + 1
        → (t : ShapeSlots) × (slice_get (slots ++ s ∷ []) shape ≡ Some t)
        × AreFreeIn (length (variants_at shapes shape)) t
    go shape (inl e) h = (
      s,
      subst (λ k. slice_get (slots ++ s ∷ []) k ≡ Some s) (upto.length_is ∙ sym e)
          (at_end slots s),
      subst (λ k. AreFreeIn (length (variants_at shapes k)) s) (sym e) free,
    )
    go shape (inr ne) h =
        let t = upto.each shape (omega arith) in
        (t.0, at_front slots (s ∷ []) shape t.0 t.1, t.2)

module _ (old new : Slots) (id : ListId) (index : ℕ) (s t : ShapeSlots)
    (there : slice_get old.shapes.items (shape_of id) ≡ Some s) (within : IsSetIn s id index t)
    (is : new.shapes.items ≡ set old.shapes.items (shape_of id) t) where
  -- the slots of the shape
  here : slice_get new.shapes.items (shape_of id) ≡ Some t
  here =
      ap (λ xs. slice_get xs (shape_of id)) is
      ∙ get_set old.shapes.items (shape_of id) t
      (slice_get_within old.shapes.items (shape_of id) s there)

  -- those of other shapes stay
  elsewhere : (shape : ℕ) → (shape ≡ shape_of id → ⊥)
      → slice_get new.shapes.items shape ≡ slice_get old.shapes.items shape
  elsewhere shape ne =
      ap (λ xs. slice_get xs shape) is
      ∙ get_set_other old.shapes.items (shape_of id) shape t ne

  -- the slot of a list of the shape
  slot_before : (q : ListId) → shape_of q ≡ shape_of id → slot_of old q ≡ slot_in q s
  slot_before q e =
      ap (λ k. option_and_then (slot_in q) (slice_get old.shapes.items k)) e
      ∙ ap (option_and_then (slot_in q)) there

  -- the same after
  slot_after : (q : ListId) → shape_of q ≡ shape_of id → slot_of new q ≡ slot_in q t
  slot_after q e =
      ap (λ k. option_and_then (slot_in q) (slice_get new.shapes.items k)) e
      ∙ ap (option_and_then (slot_in q)) here

  -- each other slot stays
  slot_stays : (q : ListId) → (q ≡ id → ⊥) → slot_of new q ≡ slot_of old q
  slot_stays q ne =
      ⊎_elim
      (λ (e : shape_of q ≡ shape_of id).
      slot_after q e ∙ within.others q e ne ∙ sym (slot_before q e))
      (λ (n : shape_of q ≡ shape_of id → ⊥).
      ap (option_and_then (slot_in q)) (elsewhere (shape_of q) n))
      (same_number (shape_of q) (shape_of id))

  -- a list has a slot after where it had one
  still_has : (q : ListId) → HasSlot old q ↔ HasSlot new q
  still_has q =
      ⊎_elim
      (λ (e : q ≡ id). subst (λ p. HasSlot old p ↔ HasSlot new p) (sym e) own)
      (λ (n : q ≡ id → ⊥).
      (subst IsSome (sym (slot_stays q n)), subst IsSome (slot_stays q n)))
      (same_list q id)
    where
      some_or_none : (o : Option (Option ℕ)) → (o ≡ None) ⊎ IsSome o
      some_or_none None = inl refl
      some_or_none (Some a) = inr refl

      none_is_none : (o : Option (Option ℕ)) → o ≡ None → IsSome o → ⊥
      none_is_none o e h = not_none (Option ℕ) (subst IsSome e h)

      own : HasSlot old id ↔ HasSlot new id
      own = (
        λ h.
            subst IsSome (sym (slot_after id refl))
            (is_there (slot_in id t) (Some index)
            (within.given (subst IsSome (slot_before id refl) h))),
        λ h.
            ⊎_elim
            (λ (e : slot_in id s ≡ None).
            absurd (none_is_none (slot_in id t) (within.lacking e)
            (subst IsSome (slot_after id refl) h)))
            (λ (g : IsSome (slot_in id s)). subst IsSome (sym (slot_before id refl)) g)
            (some_or_none (slot_in id s)),
      )

  -- the list is given the index
  pub set_where_there : IsSet old id index new
  set_where_there = record {
    given = λ h.
        index_of_slot new id
        ∙ ap (option_and_then (λ i. i)) (slot_after id refl
        ∙ within.given (subst IsSome (slot_before id refl) h));
    lacking = λ h.
        index_of_slot new id
        ∙ ap (option_and_then (λ i. i)) (slot_after id refl
        ∙ within.lacking (none_there (slot_in id s)
        (λ g. h (subst IsSome (sym (slot_before id refl)) g))));
    others = λ q ne.
        index_of_slot new q
        ∙ ap (option_and_then (λ i. i)) (slot_stays q ne)
        ∙ sym (index_of_slot old q);
    same_slots = still_has;
  }

-- where the shape is not there nothing changes
pub set_where_lacking : (slots : Slots) (id : ListId) (index : ℕ)
    → slice_get slots.shapes.items (shape_of id) ≡ None → IsSet slots id index slots
set_where_lacking slots id index e = record {
  given = λ h. absurd (not_none (Option ℕ) (subst IsSome none h));
  lacking = λ h. index_of_slot slots id ∙ ap (option_and_then (λ i. i)) none;
  others = λ q ne. refl;
  same_slots = λ q. (λ h. h, λ h. h);
}
  where
    none : slot_of slots id ≡ None
    none = ap (option_and_then (slot_in id)) e

-- the list is given the index where the shape is there, in the words of the code
pub set_at : (old new : Slots) (id : ListId) (index i : ℕ) (s t : ShapeSlots)
    → i ≡ shape_of id → i < length old.shapes.items → s ≡ get_or old.shapes.items i s
    → IsSetIn s id index t → new.shapes.items ≡ set old.shapes.items i t
    → IsSet old id index new
set_at old new id index i s t shape h at within is =
    set_where_there old new id index s t
    (ap (slice_get old.shapes.items) (sym shape)
    ∙ slice_get_read old.shapes.items (length old.shapes.items) i s refl h at)
    within
    (is ∙ ap (λ k. set old.shapes.items k t) shape)
