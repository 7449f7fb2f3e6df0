-- Lists that are placed stay as they are while one more is placed.
use Rattle.std.proofs.Common.{◌≡◌, ◌⊎◌, ◌↔◌, inl, inr, refl, sym, ap, subst, ◌∙◌, ℕ, zero, suc, ◌<◌, ◌+◌, arith, List, [], ◌∷◌, ◌++◌, length, Option, Some, None, MatchOption, slice_get, IsTrue, length}
use Rattle.std.specs.Bool.{⊤}
use Rattle.std.specs.List.{All}
use Rattle.std.proofs.lemmas.List.{length-append}
use Rattle.std.proofs.lemmas.Option.{slice_get_within, same_Some}
use Rattle.facet_solver_shape.specs.Catalogues.{Catalogue}
use Rattle.facet_solver_reader.specs.declared.tables.List.{List as ListEntry}
use Rattle.facet_solver_reader.specs.declared.tables.order.Ordered.{Ordered}
use Rattle.facet_solver_reader.specs.EveryList.{IsChosen}
use Rattle.facet_solver_reader.specs.Known.{Chooses, IsDistinct, IsKnown}
use Rattle.facet_solver_reader.specs.OrderedLists.{AreIndicesInOrder, ArePartsBefore, IsBefore, IsPlaced, IsPlacedAt}
use Rattle.facet_solver_reader.specs.Parts.{ListId, Part, a_member, a_selection, a_catch_all}
use Rattle.facet_solver_reader.specs.Placing.{BranchIsReady, IsPlaceable, IsOneMore, IsPlacing, IsUnplaced, PartIsPlaced, PartIsReady}
use Rattle.facet_solver_reader.specs.Slots.{HasSlot, index_of}
use Rattle.facet_solver_reader.specs.Tables.{knows}
use Rattle.facet_solver_reader.specs.Types.{parts_of}
use Rattle.facet_solver_reader.specs.Views.{parts_view}
use Rattle.facet_solver_reader.proofs.Opened.{at_after, at_either, at_front}
use Rattle.facet_solver_reader.proofs.Quantifiers.{all_at, all_from}
use Rattle.facet_solver_reader.proofs.Slotted.{same_list}

module _ (shapes : Catalogue) (old new : Ordered) (id : ListId) (unplaced : IsUnplaced shapes old id) (more : IsOneMore old new id) (slot : HasSlot old.slots id) (h : IsPlacing shapes old) where
  -- its index is the next
  index_is : index_of new.slots id ≡ Some (length old.lists.items)
  index_is = more.set.given slot

  -- a list that has an index keeps it
  pub index_kept : (b : ListId) (j : ℕ) → index_of old.slots b ≡ Some j → index_of new.slots b ≡ Some j
  index_kept b j at = more.set.others b (λ same. let n = unplaced.1 in let s = ap (index_of old.slots) same in let f : Some j ≡ None = sym at ∙ s ∙ n in cc) ∙ at

  -- so does a branch that is ready
  ready_kept : (n : ℕ) (b : ListId) → BranchIsReady shapes old n b → index_of new.slots b ≡ index_of old.slots b
  ready_kept n b r = go (index_of old.slots b) refl r
    where
      go : (i : Option ℕ) → index_of old.slots b ≡ i → MatchOption i (IsChosen shapes b → ⊥) (λ j. j < n)
          → index_of new.slots b ≡ index_of old.slots b
      go None at r = more.set.others b (λ same. r (subst (IsChosen shapes) (sym same) unplaced.0))
      go (Some j) at r = index_kept b j at ∙ sym at

  part_ready_kept : (n : ℕ) (p : Part) → PartIsReady shapes old n p → PartIsReady shapes new n p
  part_ready_kept n (a_member m) r = r
  part_ready_kept n (a_catch_all c) r = r
  part_ready_kept n (a_selection s) r =
      all_from (BranchIsReady shapes new n) s.branches
      (λ k b at.
      let was = all_at (BranchIsReady shapes old n) s.branches k b r at in
      subst (λ i. MatchOption i (IsChosen shapes b → ⊥) (λ j. j < n)) (sym (ready_kept n b was)) was)

  -- what stands before stays so
  part_before_kept : (n : ℕ) (below others : List ℕ) (position : ℕ) (p : Part)
      → ((q i : ℕ) → slice_get below q ≡ Some i → slice_get others q ≡ Some i)
      → PartIsReady shapes old n p → ArePartsBefore old below position p → ArePartsBefore new others position p
  part_before_kept n below others position (a_member m) f r b = b
  part_before_kept n below others position (a_catch_all c) f r b = b
  part_before_kept n below others position (a_selection s) f r b =
      all_from (IsBefore new others position) s.branches
      (λ k id at.
      let ready = all_at (BranchIsReady shapes old n) s.branches k id r at in
      let was = all_at (IsBefore old below position) s.branches k id b at in
      subst (λ i. MatchOption i ⊤ (λ index. (q : ℕ) × (q < position) × (slice_get others q ≡ Some index)))
      (sym (ready_kept n id ready)) (wider (index_of old.slots id) was))
    where
      wider : (i : Option ℕ)
          → MatchOption i ⊤ (λ index. (q : ℕ) × (q < position) × (slice_get below q ≡ Some index))
          → MatchOption i ⊤ (λ index. (q : ℕ) × (q < position) × (slice_get others q ≡ Some index))
      wider None w = w
      wider (Some j) w = (w.0, w.1, f w.0 j w.2)

  parts_before_kept : (n : ℕ) (below others : List ℕ) (position : ℕ) (ps : List Part)
      → ((q i : ℕ) → slice_get below q ≡ Some i → slice_get others q ≡ Some i)
      → All (PartIsReady shapes old n) ps → All (ArePartsBefore old below position) ps
      → All (ArePartsBefore new others position) ps
  parts_before_kept n below others position ps f r b =
      all_from (ArePartsBefore new others position) ps
      (λ k p at. part_before_kept n below others position p f (all_at (PartIsReady shapes old n) ps k p r at) (all_at (ArePartsBefore old below position) ps k p b at))

  -- a list that is there is so still
  there_kept : (index : ℕ) (l : ListEntry) → slice_get old.lists.items index ≡ Some l → slice_get new.lists.items index ≡ Some l
  there_kept index l at = subst (λ ls. slice_get ls index ≡ Some l) (sym more.lists) (at_front old.lists.items (more.entry ∷ []) index l at)

  -- and is as it was
  entry_kept : (index : ℕ) (l : ListEntry) → IsPlaced shapes old index l → IsPlaced shapes new index l
  entry_kept index l p = record {
    same = p.same;
    chosen = p.chosen;
    distinct = p.distinct;
    known = p.known;
    sorted = p.sorted;
    named = p.named;
    rising = p.rising;
    last = p.last;
    in_order = λ position index at.
        let was = p.in_order position index at in (
          was.0,
          there_kept index was.0 was.1,
          parts_before_kept index l.below.items l.below.items position (parts_view was.0.parts.items) (λ q i there. there) (h.ready index was.0 was.1) was.2,
        );
  }

  module _ (next : IsPlaceable shapes old id more.entry) (placed : All (PartIsPlaced shapes old) (parts_view more.entry.parts.items)) where
    -- its branches are ready
    part_next : (p : Part) → PartIsPlaced shapes old p → PartIsReady shapes old (length old.lists.items) p
    part_next (a_member m) r = r
    part_next (a_catch_all c) r = r
    part_next (a_selection s) r =
        all_from (BranchIsReady shapes old (length old.lists.items)) s.branches
        (λ k b at. go b (index_of old.slots b) refl (h.at b) (all_at (λ b. ¬ IsUnplaced shapes old b) s.branches k b r at))
      where
        go : (b : ListId) (i : Option ℕ) → index_of old.slots b ≡ i → MatchOption i ⊤ (IsPlacedAt old b)
            → ¬ IsUnplaced shapes old b → MatchOption i (IsChosen shapes b → ⊥) (λ j. j < length old.lists.items)
        go b None at p ready = λ chosen. ready (chosen, at)
        go b (Some j) at p ready = slice_get_within old.lists.items j p.entry p.is_there

    next_ready : All (PartIsReady shapes old (length old.lists.items)) (parts_view more.entry.parts.items)
    next_ready = all_from (PartIsReady shapes old (length old.lists.items)) (parts_view more.entry.parts.items)
        (λ k p at. part_next p (all_at (PartIsPlaced shapes old) (parts_view more.entry.parts.items) k p placed at))

    entry_there : slice_get new.lists.items (length old.lists.items) ≡ Some more.entry
    entry_there =
        let up : length old.lists.items + 0 ≡ length old.lists.items = omega arith in
        subst (λ ls. slice_get ls (length old.lists.items) ≡ Some more.entry) (sym more.lists)
        (subst (λ k. slice_get (old.lists.items ++ more.entry ∷ []) k ≡ Some more.entry) up (at_after old.lists.items (more.entry ∷ []) 0 more.entry refl))

    in_order : AreIndicesInOrder new more.entry.below.items
    in_order position index at = go (at_either next.below.front (length old.lists.items ∷ []) position index (subst (λ l. slice_get l position ≡ Some index) next.below.below_is at))
      where
        on : (q i : ℕ) → slice_get next.below.front q ≡ Some i → slice_get more.entry.below.items q ≡ Some i
        on q i there = subst (λ l. slice_get l q ≡ Some i) (sym next.below.below_is) (at_front next.below.front (length old.lists.items ∷ []) q i there)

        only : (k i : ℕ) → slice_get (length old.lists.items ∷ []) k ≡ Some i → (k ≡ 0) × (length old.lists.items ≡ i)
        only zero i there = (refl, same_Some (length old.lists.items) i there)
        only (suc k) i there = absurd (cc)

        go : (slice_get next.below.front position ≡ Some index)
            ⊎ ((k : ℕ) × (position ≡ length next.below.front + k) × (slice_get (length old.lists.items ∷ []) k ≡ Some index))
            → (l : ListEntry) × (slice_get new.lists.items index ≡ Some l)
            × All (ArePartsBefore new more.entry.below.items position) (parts_view l.parts.items)
        go (inl there) =
            let was = next.below.in_order position index there in (
              was.0,
              there_kept index was.0 was.1,
              parts_before_kept index next.below.front more.entry.below.items position (parts_view was.0.parts.items) on (h.ready index was.0 was.1) was.2,
            )
        go (inr there) =
            let last = only there.0 index there.2 in
            let here : position ≡ length next.below.front = omega (arith, there.1, last.0) in (
              more.entry,
              subst (λ k. slice_get new.lists.items k ≡ Some more.entry) last.1 entry_there,
              subst (λ k. All (ArePartsBefore new more.entry.below.items k) (parts_view more.entry.parts.items)) (sym here)
                  (parts_before_kept (length old.lists.items) next.below.front more.entry.below.items (length next.below.front) (parts_view more.entry.parts.items) on next_ready next.below.of_parts),
            )

    entry_placed : IsPlaced shapes new (length old.lists.items) more.entry
    entry_placed = record {
      same = ap (parts_of shapes) more.is_of ∙ next.same;
      chosen = subst (IsChosen shapes) (sym more.is_of) unplaced.0;
      distinct = subst (λ i. IsDistinct (Chooses (parts_of shapes) i)) (sym more.is_of) next.distinct;
      known = λ x. subst (λ i. IsTrue (knows more.entry x) ↔ IsKnown (Chooses (parts_of shapes) i) x) (sym more.is_of) (next.known x);
      sorted = next.sorted;
      named = next.named;
      rising = next.below.rising;
      in_order = in_order;
      last =
          let b = next.below in
          let up : length b.front + 0 ≡ length b.front = omega arith in (
            length b.front,
            ap length b.below_is ∙ length-append b.front (length old.lists.items ∷ []),
            subst (λ l. slice_get l (length b.front) ≡ Some (length old.lists.items)) (sym b.below_is)
                (subst (λ k. slice_get (b.front ++ length old.lists.items ∷ []) k ≡ Some (length old.lists.items)) up
                (at_after b.front (length old.lists.items ∷ []) 0 (length old.lists.items) refl)),
          );
    }

    -- what stands in the new order is there already, or is the list
    pub old_or_entry : (index : ℕ) (l : ListEntry) → slice_get new.lists.items index ≡ Some l
        → (slice_get old.lists.items index ≡ Some l) ⊎ ((length old.lists.items ≡ index) × (more.entry ≡ l))
    old_or_entry index l at = go (at_either old.lists.items (more.entry ∷ []) index l (subst (λ ls. slice_get ls index ≡ Some l) more.lists at))
      where
        only : (k : ℕ) → slice_get (more.entry ∷ []) k ≡ Some l → (k ≡ 0) × (more.entry ≡ l)
        only zero there = (refl, same_Some more.entry l there)
        only (suc k) there = absurd (cc)

        go : (slice_get old.lists.items index ≡ Some l)
            ⊎ ((k : ℕ) × (index ≡ length old.lists.items + k) × (slice_get (more.entry ∷ []) k ≡ Some l))
            → (slice_get old.lists.items index ≡ Some l) ⊎ ((length old.lists.items ≡ index) × (more.entry ≡ l))
        go (inl there) = inl there
        go (inr there) = let o = only there.0 there.2 in inr (omega (arith, there.1, o.0), o.1)

    -- so the order goes on
    pub placing_more : IsPlacing shapes new
    placing_more = record {
      placed = λ index l at. elim (old_or_entry index l at) [
        | inl was ↦ entry_kept index l (h.placed index l was)
        | inr is ↦ subst (λ k. IsPlaced shapes new k l) is.0 (subst (IsPlaced shapes new (length old.lists.items)) is.1 entry_placed)
      ];
      ready = λ index l at. elim (old_or_entry index l at) [
        | inl was ↦ all_ready_kept index (parts_view l.parts.items) (h.ready index l was)
        | inr is ↦ subst (λ k. All (PartIsReady shapes new k) (parts_view l.parts.items)) is.0
            (subst (λ (l : ListEntry). All (PartIsReady shapes new (length old.lists.items)) (parts_view l.parts.items)) is.1
            (all_ready_kept (length old.lists.items) (parts_view more.entry.parts.items) next_ready))
      ];
      at = λ b. elim (same_list b id) [
        | inl same ↦ subst (λ i. MatchOption i ⊤ (IsPlacedAt new b)) (sym (ap (index_of new.slots) same ∙ index_is))
            (record { entry = more.entry; is_there = entry_there; same = more.is_of ∙ sym same })
        | inr other ↦ subst (λ i. MatchOption i ⊤ (IsPlacedAt new b)) (sym (more.set.others b other)) (at_kept b (index_of old.slots b) (h.at b))
      ];
    }
      where
        all_ready_kept : (k : ℕ) (qs : List Part) → All (PartIsReady shapes old k) qs → All (PartIsReady shapes new k) qs
        all_ready_kept k qs r = all_from (PartIsReady shapes new k) qs (λ i q at. part_ready_kept k q (all_at (PartIsReady shapes old k) qs i q r at))

        at_kept : (b : ListId) (i : Option ℕ) → MatchOption i ⊤ (IsPlacedAt old b) → MatchOption i ⊤ (IsPlacedAt new b)
        at_kept b None p = p
        at_kept b (Some j) p = record { entry = p.entry; is_there = there_kept j p.entry p.is_there; same = p.same }
