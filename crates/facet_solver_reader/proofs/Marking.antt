-- Which lists are told to have a choice: a list that is marked has one, and where no more are
-- marked each list that has one is.
use Rattle.std.proofs.Common.{◌≡◌, ◌⊎◌, ◌↔◌, inl, inr, ap, sym, ◌∙◌, subst, ⊎_elim, ℕ, zero, suc}
use Rattle.std.proofs.Common.{◌<◌, ◌≤◌, ◌+◌, Bool, true, false, ◌&&◌, ◌||◌, List, [], ◌∷◌, map, length}
use Rattle.std.proofs.Common.{set, get_or, slice_get, length-set, Option, Some, None, refl, arith}
use Rattle.std.specs.Prelude.{IsTrue, MatchOption, if◌then◌else◌}
use Rattle.std.specs.List.{All, Any, list_any, sum_by}
use Rattle.std.specs.Option.{option_map_or}
use Rattle.std.proofs.lemmas.List.Sums.{sum_by-set}
use Rattle.std.proofs.lemmas.Option.{same_Some, slice_get_within, get_or_from_slice_get}
use Rattle.facet_solver_shape.specs.Catalogues.{Catalogue}
use Rattle.facet_solver_reader.specs.declared.part.Part as code
use Rattle.facet_solver_reader.specs.declared.part.ListId as code_list
use Rattle.facet_solver_reader.specs.declared.tables.every.EveryList.{EveryList}
use Rattle.facet_solver_reader.specs.declared.tables.every.Listed.{Listed}
use Rattle.facet_solver_reader.specs.Choices.{Choice, done, next, ChoiceAt, lacking, having}
use Rattle.facet_solver_reader.specs.Choices.{without, choosing, taking, Item}
use Rattle.facet_solver_reader.specs.EveryList.{AreEveryList, IsChosen, IsNumbered}
use Rattle.facet_solver_reader.specs.Known.{ChoosesAll, ChoosesAt, HasChoice}
use Rattle.facet_solver_reader.specs.Listing.{AreFound, IsFound, IsSettled, IsSettledAt}
use Rattle.facet_solver_reader.specs.Listing.{IsTried, KeepsFound, has_choice, part_has_choice}
use Rattle.facet_solver_reader.specs.Listing.{parts_have_choices, unmarked}
use Rattle.facet_solver_reader.specs.Parts.{ListId}
use Rattle.facet_solver_reader.specs.Slots.{index_of}
use Rattle.facet_solver_reader.specs.Types.{parts_of}
use Rattle.facet_solver_reader.specs.Views.{catch_all_view, list_view, member_view, part_view}
use Rattle.facet_solver_reader.specs.Views.{parts_view, selection_view}
use Rattle.facet_solver_reader.proofs.Knowledge.{choice_of_catch_all, choice_of_each}
use Rattle.facet_solver_reader.proofs.Knowledge.{choice_of_member, choice_of_selection}
use Rattle.facet_solver_reader.proofs.Lists.{choice_of_list}
use Rattle.facet_solver_reader.proofs.Quantifiers.{all_of_more, all_of_none, any_of_more}
use Rattle.facet_solver_reader.proofs.Slotted.{get_set, get_set_other, same_number}

-- one of two tests holds
or_true : (a b : Bool) → (a || b) ≡ true → (a ≡ true) ⊎ (b ≡ true)
or_true true b e = inl refl
or_true false b e = inr e

-- both tests hold
and_true : (a b : Bool) → (a && b) ≡ true → (a ≡ true) × (b ≡ true)
and_true true b e = (refl, e)
and_true false b e = absurd (cc)

-- the first test, or the second
or_left : (a b : Bool) → a ≡ true → (a || b) ≡ true
or_left true b e = refl
or_left false b e = absurd (cc)

or_right : (a b : Bool) → b ≡ true → (a || b) ≡ true
or_right true b e = refl
or_right false b e = e

-- both
and_both : (a b : Bool) → a ≡ true → b ≡ true → (a && b) ≡ true
and_both true b e f = f
and_both false b e f = absurd (cc)

module _ (shapes : Catalogue) (every : EveryList) (found : AreFound shapes every) where
  -- a list that is told to have a choice has one
  told_has : (id : ListId) → has_choice every id ≡ true → IsChosen shapes id
  told_has id e = go (index_of every.numbers id) (found.numbered id) e
    where
      go : (o : Option ℕ)
          → MatchOption o (IsChosen shapes id → ⊥) (IsNumbered every id)
          → option_map_or
          (λ n. option_map_or (λ l. l.has_choice) (slice_get every.lists.items n) false) o false
          ≡ true
          → IsChosen shapes id
      go None none e = absurd (cc)
      go (Some n) is e =
          let marked : is.list.has_choice ≡ true =
          sym (ap (λ o. option_map_or (λ l. l.has_choice) o false) is.is_there) ∙ e in
          subst (IsChosen shapes) is.same ((found.listed n is.list is.is_there).chosen marked)

  -- so has some branch
  some_branch : (bs : List code_list.ListId)
      → list_any (λ b. has_choice every (list_view b)) bs ≡ true
      → Any (IsChosen shapes) (map list_view bs)
  some_branch [] e = absurd (cc)
  some_branch (b ∷ bs) e =
      (any_of_more (IsChosen shapes) (list_view b) (map list_view bs)).1
      (⊎_elim (λ (h : has_choice every (list_view b) ≡ true). inl (told_has (list_view b) h))
      (λ (h : list_any (λ b. has_choice every (list_view b)) bs ≡ true). inr (some_branch bs h))
      (or_true (has_choice every (list_view b))
      (list_any (λ b. has_choice every (list_view b)) bs) e))

  -- and a part
  part_has : (p : code.Part) → part_has_choice every p ≡ true
      → HasChoice (ChoosesAt (parts_of shapes) (part_view p))
  part_has (code.TheVariants.Member m) e = choice_of_member (parts_of shapes) (member_view m)
  part_has (code.TheVariants.CatchAll k) e =
      choice_of_catch_all (parts_of shapes) (catch_all_view k)
  part_has (code.TheVariants.Selection s) e =
      (choice_of_selection (parts_of shapes) (selection_view s)).1
      (⊎_elim (λ (h : s.optional ≡ true). inl h)
      (λ (h : list_any (λ b. has_choice every (list_view b)) s.branches.items ≡ true).
      inr (some_branch s.branches.items h))
      (or_true s.optional (list_any (λ b. has_choice every (list_view b)) s.branches.items) e))

  -- and each
  parts_have : (ps : List code.Part) → parts_have_choices every ps ≡ true
      → All (λ p. HasChoice (ChoosesAt (parts_of shapes) p)) (parts_view ps)
  parts_have [] e = all_of_none (λ p. HasChoice (ChoosesAt (parts_of shapes) p))
  parts_have (p ∷ ps) e =
      let both = and_true (part_has_choice every p) (parts_have_choices every ps) e in
      (all_of_more (λ p. HasChoice (ChoosesAt (parts_of shapes) p)) (part_view p)
      (parts_view ps)).1
      (part_has p both.0, parts_have ps both.1)

  -- so a list whose parts are told to have choices has one
  pub list_has : (l : Listed)
      → parts_of shapes (list_view l.id) ≡ Some (parts_view l.parts.items)
      → parts_have_choices every l.parts.items ≡ true → IsChosen shapes (list_view l.id)
  list_has l same e =
      let ps = parts_view l.parts.items in
      (choice_of_list (parts_of shapes) (list_view l.id) ps same).0
      ((choice_of_each (parts_of shapes) ps).1 (parts_have l.parts.items e))

  module _ (settled : IsSettled every) where
    -- a list with a choice is told to have one where its parts are
    told_by_parts : (id : ListId) → IsChosen shapes id
        → ((ps : List code.Part) → parts_of shapes id ≡ Some (parts_view ps)
        → parts_have_choices every ps ≡ true)
        → has_choice every id ≡ true
    told_by_parts id chosen f = go (index_of every.numbers id) (found.numbered id)
      where
        go : (o : Option ℕ)
            → MatchOption o (IsChosen shapes id → ⊥) (IsNumbered every id)
            → option_map_or
            (λ n. option_map_or (λ l. l.has_choice) (slice_get every.lists.items n) false) o false
            ≡ true
        go None none = absurd (none chosen)
        go (Some n) is =
            let same = (found.listed n is.list is.is_there).same in
            let marked : is.list.has_choice ≡ true =
            settled n is.list is.is_there
            (f is.list.parts.items
            (subst (λ q. parts_of shapes q ≡ Some (parts_view is.list.parts.items)) is.same same))
            in
            ap (λ o. option_map_or (λ l. l.has_choice) o false) is.is_there ∙ marked

    -- some branch with a choice is told to have one
    some_told : (bs : List code_list.ListId) (k : ℕ) (id : ListId)
        → slice_get (map list_view bs) k ≡ Some id → has_choice every id ≡ true
        → list_any (λ b. has_choice every (list_view b)) bs ≡ true
    some_told [] k id e h = absurd (cc)
    some_told (b ∷ bs) zero id e h =
        or_left (has_choice every (list_view b))
        (list_any (λ b. has_choice every (list_view b)) bs)
        (ap (has_choice every) (same_Some (list_view b) id e) ∙ h)
    some_told (b ∷ bs) (suc k) id e h =
        or_right (has_choice every (list_view b))
        (list_any (λ b. has_choice every (list_view b)) bs)
        (some_told bs k id e h)

    mutual
      -- parts with a choice are told to have one
      parts_told : (c : Choice) (ps : List code.Part) (items : List Item)
          → ChoosesAll (parts_of shapes) (parts_view ps) c items
          → parts_have_choices every ps ≡ true
      parts_told done [] items h = refl
      parts_told done (p ∷ ps) items h = absurd h
      parts_told (next a c) [] items h = absurd h
      parts_told (next a c) (p ∷ ps) items h =
          and_both (part_has_choice every p) (parts_have_choices every ps)
          (part_told a p h.first h.chooses_first) (parts_told c ps h.second h.chooses_second)

      -- and a part with one
      part_told : (a : ChoiceAt) (p : code.Part) (items : List Item)
          → ChoosesAt (parts_of shapes) (part_view p) a items
          → part_has_choice every p ≡ true
      part_told a (code.TheVariants.Member m) items h = refl
      part_told a (code.TheVariants.CatchAll k) items h = refl
      part_told lacking (code.TheVariants.Selection s) items h = absurd h
      part_told (having r) (code.TheVariants.Selection s) items h = absurd h
      part_told (taking t) (code.TheVariants.Selection s) items h = absurd h
      part_told without (code.TheVariants.Selection s) items h =
          or_left s.optional (list_any (λ b. has_choice every (list_view b)) s.branches.items) h.0
      part_told (choosing k c) (code.TheVariants.Selection s) items h =
          let b = h.chooses in
          or_right s.optional (list_any (λ b. has_choice every (list_view b)) s.branches.items)
          (some_told s.branches.items k b.list b.branch_is
          (told_by_parts b.list
          (record { choice = c; items = h.of_branch; chooses = b.chooses })
          (λ ps e.
          parts_told c ps h.of_branch
          (subst (λ qs. ChoosesAll (parts_of shapes) qs c h.of_branch)
          (same_Some b.chooses.parts (parts_view ps) (sym b.chooses.parts_are ∙ e))
          b.chooses.chooses))))

    -- where each list is settled, it is told to have a choice exactly if it has one
    pub settled_are_every : AreEveryList shapes every
    settled_are_every = record {
      listed = λ number l there.
          let f = found.listed number l there in
          record {
            same = f.same;
            chosen = (
              f.chosen,
              λ h.
                  settled number l there
                  (parts_told h.choice l.parts.items h.items
                  (subst (λ qs. ChoosesAll (parts_of shapes) qs h.choice h.items)
                  (same_Some h.chooses.parts (parts_view l.parts.items)
                  (sym h.chooses.parts_are ∙ f.same))
                  h.chooses.chooses)),
            );
          };
      numbered = found.numbered;
      own = found.own;
    }

-- a list that is marked
abbrev pub marked : Listed → Listed
marked l = record { id = l.id; parts = l.parts; has_choice = true }

-- how much a list counts among those that are not marked
abbrev counts : Listed → ℕ
counts l = if l.has_choice then 0 else 1

module _ (old new : EveryList) (number : ℕ) (l : Listed)
    (there : slice_get old.lists.items number ≡ Some l)
    (items_are : new.lists.items ≡ set old.lists.items number (marked l))
    (numbers_are : new.numbers ≡ old.numbers) where
  -- the list is there
  now_there : slice_get new.lists.items number ≡ Some (marked l)
  now_there =
      ap (λ xs. slice_get xs number) items_are
      ∙ get_set old.lists.items number (marked l)
      (slice_get_within old.lists.items number l there)

  -- and the others stay
  still_there : (k : ℕ) → (k ≡ number → ⊥)
      → slice_get new.lists.items k ≡ slice_get old.lists.items k
  still_there k ne =
      ap (λ xs. slice_get xs k) items_are
      ∙ get_set_other old.lists.items number k (marked l) ne

  -- what holds of the marked list and of each old one holds of each
  each_now : (P : ℕ → Listed → Type 0) → P number (marked l)
      → ((k : ℕ) (x : Listed) → slice_get old.lists.items k ≡ Some x → P k x)
      → (k : ℕ) (x : Listed) → slice_get new.lists.items k ≡ Some x → P k x
  each_now P here others k x e =
      ⊎_elim
      (λ (is : k ≡ number).
      subst (λ j. P j x) (sym is)
      (subst (P number)
      (same_Some (marked l) x
      (sym now_there ∙ (sym (ap (slice_get new.lists.items) is) ∙ e))) here))
      (λ (ne : k ≡ number → ⊥). others k x (sym (still_there k ne) ∙ e))
      (same_number k number)

  -- a name has its number still
  still_numbered : (id : ListId) (k : ℕ) → IsNumbered old id k → IsNumbered new id k
  still_numbered id k is =
      ⊎_elim
      (λ (e : k ≡ number).
      record {
        list = marked l;
        is_there = ap (slice_get new.lists.items) e ∙ now_there;
        same =
            ap (λ x. list_view x.id)
            (same_Some l is.list
            (sym there ∙ (sym (ap (slice_get old.lists.items) e) ∙ is.is_there)))
            ∙ is.same;
      })
      (λ (ne : k ≡ number → ⊥).
      record {
        list = is.list;
        is_there = still_there k ne ∙ is.is_there;
        same = is.same;
      })
      (same_number k number)

  -- so does each name
  all_numbered : (id : ListId) (Q : Type 0) (o : Option ℕ) → MatchOption o Q (IsNumbered old id)
      → MatchOption o Q (IsNumbered new id)
  all_numbered id Q None h = h
  all_numbered id Q (Some k) h = still_numbered id k h

  -- what is found still holds where the list has a choice
  found_of_marked : parts_have_choices old l.parts.items ≡ true → KeepsFound old new
  found_of_marked e shapes found =
      let f = found.listed number l there in
      record {
        listed = each_now (λ k x. IsFound shapes x)
            (record { same = f.same; chosen = λ h. list_has shapes old found l f.same e })
            found.listed;
        numbered = λ id.
            all_numbered id (IsChosen shapes id → ⊥) (index_of new.numbers id)
            (subst (λ s. MatchOption (index_of s id) (IsChosen shapes id → ⊥) (IsNumbered old id))
            (sym numbers_are) (found.numbered id));
        own = each_now (λ k x. index_of new.numbers (list_view x.id) ≡ Some k)
            (ap (λ s. index_of s (list_view l.id)) numbers_are ∙ found.own number l there)
            (λ k x at. ap (λ s. index_of s (list_view x.id)) numbers_are ∙ found.own k x at);
      }

  -- one list more is marked
  one_fewer : l.has_choice ≡ false → unmarked old ≡ unmarked new + 1
  one_fewer e =
      let within = slice_get_within old.lists.items number l there in
      let sum : sum_by counts (set old.lists.items number (marked l))
      + counts (get_or old.lists.items number l) ≡ unmarked old + 0 =
      sum_by-set counts old.lists.items number (marked l) l within in
      let one : counts (get_or old.lists.items number l) ≡ 1 =
      ap counts (get_or_from_slice_get old.lists.items number l l there)
      ∙ ap (λ b. if b then 0 else 1) e in
      let now : unmarked new ≡ sum_by counts (set old.lists.items number (marked l)) =
      ap (sum_by counts) items_are in
      omega (arith, sum, one, now)

  -- a list is marked
  pub marks_one : l.has_choice ≡ false → parts_have_choices old l.parts.items ≡ true
      → IsTried old number true new
  marks_one unmarked have = record {
    found = found_of_marked have;
    length_is = ap length items_are ∙ length-set old.lists.items number (marked l);
    one_more = λ t. one_fewer unmarked;
    same = λ e. absurd (cc);
    settled = λ e. absurd (cc);
  }

-- some of the first lists are marked, or each of them is settled
pub record AreTriedUpto (old : EveryList) (more : Bool) (n : ℕ) (new : EveryList) : Type 0 where
  pub found : KeepsFound old new
  pub length_is : length new.lists.items ≡ length old.lists.items
  pub no_more : unmarked new ≤ unmarked old
  pub fewer : IsTrue more → unmarked new < unmarked old
  pub settled : more ≡ false → (k : ℕ) → k < n → IsSettledAt new k

-- what a list of a number is told
pub told_at : (every : EveryList) (id : ListId) (n : ℕ) (o : Option Listed)
    → index_of every.numbers id ≡ Some n → slice_get every.lists.items n ≡ o
    → option_map_or (λ l. l.has_choice) o false ≡ has_choice every id
told_at every id n o numbered there =
    sym (ap (λ o. option_map_or (λ l. l.has_choice) o false) there)
    ∙ sym (ap (λ i.
    option_map_or
    (λ n. option_map_or (λ l. l.has_choice) (slice_get every.lists.items n) false) i false)
    numbered)

-- a list that is told to have a choice has one, where every list is
pub told_is_chosen : (shapes : Catalogue) (every : EveryList) (id : ListId)
    → AreEveryList shapes every → IsTrue (has_choice every id) ↔ IsChosen shapes id
told_is_chosen shapes every id are = (told_has shapes every found id, back)
  where
    found : AreFound shapes every
    found = record {
      listed = λ number l there.
          let f = are.listed number l there in record { same = f.same; chosen = f.chosen.0 };
      numbered = are.numbered;
      own = are.own;
    }

    go : (o : Option ℕ) → MatchOption o (IsChosen shapes id → ⊥) (IsNumbered every id)
        → IsChosen shapes id
        → option_map_or
        (λ n. option_map_or (λ l. l.has_choice) (slice_get every.lists.items n) false) o false
        ≡ true
    go None none h = absurd (none h)
    go (Some n) is h =
        let marked = (are.listed n is.list is.is_there).chosen.1
        (subst (IsChosen shapes) (sym is.same) h) in
        ap (λ o. option_map_or (λ l. l.has_choice) o false) is.is_there ∙ marked

    back : IsChosen shapes id → IsTrue (has_choice every id)
    back h = go (index_of every.numbers id) (are.numbered id) h
