-- Indices of lists that are gathered, and what is below parts.
use Rattle.std.proofs.Common.{◌≡◌, ◌∙◌, inl, inr, refl, sym, subst, ℕ, ◌<◌, ◌+◌, arith, List, [], ◌∷◌, ◌++◌, length, Contains, Option, Some, None, MatchOption, slice_get, get_or}
use Rattle.std.specs.Bool.{⊤}
use Rattle.std.specs.List.{All}
use Rattle.std.specs.List.Sorted.{IsStrictlyIncreasing}
use Rattle.std.specs.Option.{option_and_then}
use Rattle.std.proofs.lemmas.Bool.{cases_lt}
use Rattle.std.proofs.lemmas.List.Elements.{Contains-append_cases, Contains-append_left, Contains-append_right}
use Rattle.std.proofs.lemmas.List.Kept.{AllPairs-from_increasing}
use Rattle.std.proofs.lemmas.List.Quantifiers.{all_pairs_push}
use Rattle.std.proofs.lemmas.Option.{get_or_from_slice_get, same_Some, slice_get-get_or, slice_get_read, slice_get_within}
use Rattle.facet_solver_shape.specs.Catalogues.{Catalogue}
use Rattle.facet_solver_reader.specs.declared.part.Part as code_part
use Rattle.facet_solver_reader.specs.declared.tables.List.{List as ListEntry}
use Rattle.facet_solver_reader.specs.declared.tables.order.Ordered.{Ordered}
use Rattle.facet_solver_reader.specs.EveryList.{IsChosen}
use Rattle.facet_solver_reader.specs.OrderedLists.{ArePartsBefore, IsBefore}
use Rattle.facet_solver_reader.specs.Parts.{ListId, Part, a_member, a_selection, a_catch_all}
use Rattle.facet_solver_reader.specs.Placing.{AreBelow, AreGathered, AreStillAmong, BranchIsReady, IsPlacing, ListIsAmong, PartIsAmong, PartIsReady, entry_of}
use Rattle.facet_solver_reader.specs.Slots.{index_of}
use Rattle.facet_solver_reader.specs.Views.{part_view, parts_view}
use Rattle.facet_solver_reader.proofs.Quantifiers.{all_at, all_from}

-- a number at an index is contained
at_index : (xs : List ℕ) (q k : ℕ) → slice_get xs q ≡ Some k → Contains xs k
at_index xs q k at = (q, slice_get_within xs q k at, get_or_from_slice_get xs q k k at)

-- and one that is contained has an index
index_at : (xs : List ℕ) (k : ℕ) → Contains xs k
    → (q : ℕ) × (q < length xs) × (slice_get xs q ≡ Some k)
index_at xs k m = (m.0, m.1, slice_get_read xs (length xs) m.0 k refl m.1 (sym m.2))

-- ---- what stays among indices

-- a list
pub list_kept : (o : Ordered) (old new : List ℕ) → AreStillAmong old new → (b : ListId)
    → ListIsAmong o old b → ListIsAmong o new b
list_kept o old new kept b m = go (index_of o.slots b) m
  where
    go : (i : Option ℕ) → MatchOption i ⊤ (Contains old) → MatchOption i ⊤ (Contains new)
    go None m = m
    go (Some j) m = kept j m

-- a part
pub part_kept : (o : Ordered) (old new : List ℕ) → AreStillAmong old new → (p : Part)
    → PartIsAmong o old p → PartIsAmong o new p
part_kept o old new kept (a_member m) h = h
part_kept o old new kept (a_catch_all c) h = h
part_kept o old new kept (a_selection s) h =
    all_from (ListIsAmong o new) s.branches
    (λ k b at. list_kept o old new kept b (all_at (ListIsAmong o old) s.branches k b h at))

-- the parts of each list
parts_kept : (o : Ordered) (old new : List ℕ) → AreStillAmong old new → (ps : List Part)
    → All (PartIsAmong o old) ps → All (PartIsAmong o new) ps
parts_kept o old new kept ps h =
    all_from (PartIsAmong o new) ps
    (λ k p at. part_kept o old new kept p (all_at (PartIsAmong o old) ps k p h at))

-- ---- one list more

module _ (shapes : Catalogue) (o : Ordered) (h : IsPlacing shapes o) (old new : List ℕ) (closed : AreGathered o old) (j : ℕ) (l : ListEntry) (there : slice_get o.lists.items j ≡ Some l) (is : new ≡ old ++ l.below.items) where
  -- what was gathered stays so
  pub kept_more : AreStillAmong old new
  kept_more k m = subst (λ xs. Contains xs k) (sym is) (Contains-append_left old l.below.items k m)

  -- what is below the list is gathered
  all_below : (q k : ℕ) → slice_get l.below.items q ≡ Some k → Contains new k
  all_below q k at =
      subst (λ xs. Contains xs k) (sym is)
      (Contains-append_right old l.below.items k (at_index l.below.items q k at))

  -- what stands before is gathered
  before_gathered : (position : ℕ) (p : Part) → ArePartsBefore o l.below.items position p
      → PartIsAmong o new p
  before_gathered position (a_member m) b = b
  before_gathered position (a_catch_all c) b = b
  before_gathered position (a_selection s) b =
      all_from (ListIsAmong o new) s.branches
      (λ k id at. go (index_of o.slots id)
      (all_at (IsBefore o l.below.items position) s.branches k id b at))
    where
      go : (i : Option ℕ) → MatchOption i ⊤
          (λ index. (q : ℕ) × (q < position) × (slice_get l.below.items q ≡ Some index))
          → MatchOption i ⊤ (Contains new)
      go None w = w
      go (Some i) w = all_below w.0 i w.2

  pub closed_more : AreGathered o new
  closed_more index m =
      elim (Contains-append_cases old l.below.items index (subst (λ xs. Contains xs index) is m)) [
        | inl was ↦
            let c = closed index was in
            (c.0, c.1, parts_kept o old new kept_more (parts_view c.0.parts.items) c.2)
        | inr below ↦
            let at = index_at l.below.items index below in
            let c = (h.placed j l there).in_order at.0 index at.2 in
            let ps = parts_view c.0.parts.items in (
              c.0,
              c.1,
              all_from (PartIsAmong o new) ps
                  (λ k p here. before_gathered at.0 p
                  (all_at (ArePartsBefore o l.below.items at.0) ps k p c.2 here)),
            )
      ]

  -- and so is the list itself
  pub self_gathered : Contains new j
  self_gathered = let q = (h.placed j l there).last in all_below q.0 j q.2

-- ---- what is below

module _ (shapes : Catalogue) (o : Ordered) (h : IsPlacing shapes o) (front : List ℕ) (closed : AreGathered o front) (rising : IsStrictlyIncreasing front) where
  -- of two numbers that rise the smaller stands first
  stands_first : (q p j k : ℕ) → slice_get front q ≡ Some j → slice_get front p ≡ Some k → j < k
      → q < p
  stands_first q p j k here there less = elim (cases_lt q p) [
    | inl low ↦ low
    | inr high ↦ elim (cases_lt p q) [
      | inl low ↦
          let up : get_or front p k < get_or front q k =
          AllPairs-from_increasing front rising p q k low (slice_get_within front q j here) in
          let one = get_or_from_slice_get front p k k there in
          let other = get_or_from_slice_get front q j k here in
          absurd (omega (arith, up, one, other, less))
      | inr low ↦
          let at : q ≡ p = omega (arith, high, low) in
          let same : j ≡ k =
          same_Some j k (sym here ∙ subst (λ i. slice_get front i ≡ Some k) (sym at) there) in
          absurd (omega (arith, same, less))
    ]
  ]

  -- a part of a list that is among them stands before it
  part_before : (position index : ℕ) → slice_get front position ≡ Some index → (p : Part)
      → PartIsReady shapes o index p → PartIsAmong o front p → ArePartsBefore o front position p
  part_before position index at (a_member m) ready b = b
  part_before position index at (a_catch_all c) ready b = b
  part_before position index at (a_selection s) ready b =
      all_from (IsBefore o front position) s.branches
      (λ k id there. go id (index_of o.slots id)
      (all_at (BranchIsReady shapes o index) s.branches k id ready there)
      (all_at (ListIsAmong o front) s.branches k id b there))
    where
      go : (id : ListId) (i : Option ℕ)
          → MatchOption i (IsChosen shapes id → ⊥) (λ j. j < index) → MatchOption i ⊤ (Contains front)
          → MatchOption i ⊤ (λ j. (q : ℕ) × (q < position) × (slice_get front q ≡ Some j))
      go id None ready m = m
      go id (Some j) ready m =
          let q = index_at front j m in
          (q.0, stands_first q.0 position j index q.2 at ready, q.2)

  -- a part that is among them stands before the last
  part_below : (p : Part) → PartIsAmong o front p → ArePartsBefore o front (length front) p
  part_below (a_member m) b = b
  part_below (a_catch_all c) b = b
  part_below (a_selection s) b =
      all_from (IsBefore o front (length front)) s.branches
      (λ k id there. go (index_of o.slots id) (all_at (ListIsAmong o front) s.branches k id b there))
    where
      go : (i : Option ℕ) → MatchOption i ⊤ (Contains front)
          → MatchOption i ⊤ (λ j. (q : ℕ) × (q < length front) × (slice_get front q ≡ Some j))
      go None m = m
      go (Some j) m = index_at front j m

  pub below_of_gathered : (ps : List Part) (below : List ℕ) → All (PartIsAmong o front) ps
      → below ≡ front ++ length o.lists.items ∷ [] → AreBelow o ps below
  below_of_gathered ps below all is = record {
    front = front;
    below_is = is;
    rising = subst IsStrictlyIncreasing (sym is)
        (λ k within. all_pairs_push (λ x y. x < y) front (length o.lists.items)
        (AllPairs-from_increasing front rising)
        (λ q d inside.
        let c = closed (get_or front q d) (at_index front q (get_or front q d) (there q d inside)) in
        slice_get_within o.lists.items (get_or front q d) c.0 c.1)
        k (k + 1) 0 (omega arith) within);
    in_order = λ position index at.
        let c = closed index (at_index front position index at) in
        let qs = parts_view c.0.parts.items in (
          c.0,
          c.1,
          all_from (ArePartsBefore o front position) qs
              (λ k p there. part_before position index at p
              (all_at (PartIsReady shapes o index) qs k p (h.ready index c.0 c.1) there)
              (all_at (PartIsAmong o front) qs k p c.2 there)),
        );
    of_parts = all_from (ArePartsBefore o front (length front)) ps
        (λ k p there. part_below p (all_at (PartIsAmong o front) ps k p all there));
  }
    where
      there : (q d : ℕ) → q < length front → slice_get front q ≡ Some (get_or front q d)
      there q d inside = slice_get-get_or front q d inside

-- the same indices, each once
pub gathered_same : (o : Ordered) (old new : List ℕ) → AreStillAmong old new → AreStillAmong new old
    → AreGathered o old → AreGathered o new
gathered_same o old new kept back closed index m =
    let c = closed index (back index m) in
    (c.0, c.1, parts_kept o old new kept (parts_view c.0.parts.items) c.2)

-- indices below the parts before one
pub record AreGatheredUpto (o : Ordered) (parts : List code_part.Part) (n : ℕ) (indices : List ℕ)
    : Type 0 where
  pub closed : AreGathered o indices
  pub among : (k : ℕ) (p : code_part.Part) → k < n → slice_get parts k ≡ Some p
      → PartIsAmong o indices (part_view p)

-- the entry of a list has its index
pub entry_index : (o : Ordered) (id : ListId) (l : ListEntry) → entry_of o id ≡ Some l
    → (j : ℕ) × (index_of o.slots id ≡ Some j) × (slice_get o.lists.items j ≡ Some l)
entry_index o id l e = go (index_of o.slots id) refl e
  where
    go : (i : Option ℕ) → index_of o.slots id ≡ i → option_and_then (slice_get o.lists.items) i ≡ Some l
        → (j : ℕ) × (index_of o.slots id ≡ Some j) × (slice_get o.lists.items j ≡ Some l)
    go None at e = absurd (cc)
    go (Some j) at e = (j, at, e)
