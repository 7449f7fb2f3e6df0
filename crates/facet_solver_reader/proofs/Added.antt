-- The lists of a catalogue, as they are added: each list that has parts is there, and none has a
-- choice that is not there.
use Rattle.std.proofs.Common.{◌≡◌, ◌⊎◌, inl, inr, ap, sym, ◌∙◌, subst, ⊎_elim, ℕ, zero, suc}
use Rattle.std.proofs.Common.{◌<◌, ◌≤◌, ◌+◌, Bool, true, false, [], ◌∷◌, ◌++◌, length, slice_get}
use Rattle.std.proofs.Common.{Option, Some, None, refl, arith}
use Rattle.std.specs.Prelude.{MatchOption, ⊤, option_and_then, option_map}
use Rattle.std.specs.List.{Any}
use Rattle.std.proofs.lemmas.Option.{none-some, same_Some, slice_get_past}
use Rattle.facet_solver_shape.specs.Catalogues.{Catalogue, kind_of}
use Rattle.facet_solver_reader.specs.declared.tables.every.EveryList.{EveryList}
use Rattle.facet_solver_reader.specs.declared.tables.every.Listed.{Listed}
use Rattle.facet_solver_reader.specs.EveryList.{IsChosen, IsNumbered}
use Rattle.facet_solver_reader.specs.Known.{ChoosesAt, HasChoice}
use Rattle.facet_solver_reader.specs.Listing.{AreListsAdded, AreFound, AreListed, IsEntry}
use Rattle.facet_solver_reader.specs.ListShapes.{shape_of}
use Rattle.facet_solver_reader.specs.Parts.{ListId, Part, of_struct, of_enum, of_joined}
use Rattle.facet_solver_reader.specs.Parts.{of_branch, of_fields}
use Rattle.facet_solver_reader.specs.Slots.{IsOfCatalogue, IsSet, index_of}
use Rattle.facet_solver_reader.specs.Types.{branches_from, joined_from, one_of, parts_of}
use Rattle.facet_solver_reader.specs.Types.{parts_of_branch, parts_of_fields, parts_of_struct, repr_at}
use Rattle.facet_solver_reader.specs.Types.{variant_at, variants_at, variants_of_kind}
use Rattle.facet_solver_reader.specs.Views.{list_view, parts_view}
use Rattle.facet_solver_reader.proofs.Knowledge.{choice_of_each, choice_of_selection}
use Rattle.facet_solver_reader.proofs.Lists.{choice_of_list, no_choice_of_no_list}
use Rattle.facet_solver_reader.proofs.Opened.{at_either, at_front}
use Rattle.facet_solver_reader.proofs.Quantifiers.{all_of_more, any_of_none}
use Rattle.facet_solver_reader.proofs.Slotted.{at_end, same_list}

-- one number is below another or not
lt_or_ge : (a b : ℕ) → (a < b) ⊎ (b ≤ a)
lt_or_ge a zero = inr (omega arith)
lt_or_ge zero (suc b) = inl (omega arith)
lt_or_ge (suc a) (suc b) =
    ⊎_elim (λ (h : a < b). inl (omega arith)) (λ (h : b ≤ a). inr (omega arith)) (lt_or_ge a b)

module _ (shapes : Catalogue) where
  -- lists that are added, and then others
  pub added_more : (a b c : EveryList) (D E : ListId → Type 0)
      → AreListsAdded shapes a b D → AreListsAdded shapes b c E → ((q : ListId) → D q → E q → ⊥)
      → AreListsAdded shapes a c (λ q. D q ⊎ E q)
  added_more a b c D E first second apart = record {
    listed = second.listed;
    done = λ q e free.
        ⊎_elim
        (λ (d : D q). first.done q d (sym (second.others q (apart q d)) ∙ free))
        (λ (h : E q). second.done q h free)
        e;
    others = λ q ne.
        second.others q (λ h. ne (inr h)) ∙ first.others q (λ d. ne (inl d));
  }

  -- the same lists, or others without parts
  pub added_as : (a b : EveryList) (D E : ListId → Type 0) → AreListsAdded shapes a b D
      → ((q : ListId) → D q → E q)
      → ((q : ListId) → E q → D q ⊎ (parts_of shapes q ≡ None))
      → AreListsAdded shapes a b E
  added_as a b D E added on back = record {
    listed = added.listed;
    done = λ q e free.
        ⊎_elim (λ (d : D q). added.done q d free) (λ (n : parts_of shapes q ≡ None). n) (back q e);
    others = λ q ne. added.others q (λ d. ne (on q d));
  }

  -- a list that is not added is free if it was
  pub still_free : (a b : EveryList) (D : ListId → Type 0) (q : ListId) → AreListsAdded shapes a b D
      → (D q → ⊥) → index_of a.numbers q ≡ None → index_of b.numbers q ≡ None
  still_free a b D q added ne free = added.others q ne ∙ free

  module _ (old new : EveryList) (id : ListId) (l : Listed) (listed : AreListed shapes old)
      (free : index_of old.numbers id ≡ None) (known : IsOfCatalogue shapes id)
      (items_are : new.lists.items ≡ old.lists.items ++ l ∷ []) (named : list_view l.id ≡ id)
      (unmarked : l.has_choice ≡ false)
      (parts : parts_of shapes id ≡ Some (parts_view l.parts.items))
      (given : IsSet old.numbers id (length old.lists.items) new.numbers) where
    -- the number of the new list
    own_number : index_of new.numbers id ≡ Some (length old.lists.items)
    own_number = given.given (listed.slots_are id known)

    -- the new list is there
    now_there : slice_get new.lists.items (length old.lists.items) ≡ Some l
    now_there =
        ap (λ xs. slice_get xs (length old.lists.items)) items_are ∙ at_end old.lists.items l

    -- the last of one
    at_last : (k : ℕ) (x : Listed) → slice_get (l ∷ []) k ≡ Some x → (k ≡ 0) × (l ≡ x)
    at_last zero x e = (refl, same_Some l x e)
    at_last (suc k) x e = absurd (none-some x e)

    -- a list of a number is an old one or the new one
    entry_of : (number : ℕ) (x : Listed) → slice_get new.lists.items number ≡ Some x
        → IsEntry shapes new number x
    entry_of number x there =
        ⊎_elim before
        (λ (t : (k : ℕ) × (number ≡ length old.lists.items + k) × (slice_get (l ∷ []) k ≡ Some x)).
        let last = at_last t.0 x t.2 in
        let here : number ≡ length old.lists.items = omega (arith, t.1, last.0) in
        subst (λ n. IsEntry shapes new n x) (sym here)
        (subst (IsEntry shapes new (length old.lists.items)) last.1
        (record {
          same = ap (parts_of shapes) named ∙ parts;
          own = ap (index_of new.numbers) named ∙ own_number;
          unmarked = unmarked;
        })))
        (at_either old.lists.items (l ∷ []) number x
        (ap (λ xs. slice_get xs number) (sym items_are) ∙ there))
      where
        before : slice_get old.lists.items number ≡ Some x → IsEntry shapes new number x
        before e =
            let en = listed.entries number x e in
            record {
              same = en.same;
              own = given.others (list_view x.id) (λ is.
                  none-some number
                  (sym free ∙ (sym (ap (index_of old.numbers) is) ∙ en.own)))
                  ∙ en.own;
              unmarked = en.unmarked;
            }

    -- a name has its number still
    still_numbered : (q : ListId) (o : Option ℕ) → MatchOption o ⊤ (IsNumbered old q)
        → MatchOption o ⊤ (IsNumbered new q)
    still_numbered q None h = h
    still_numbered q (Some k) h =
        record {
          list = h.list;
          is_there =
              ap (λ xs. slice_get xs k) items_are
              ∙ at_front old.lists.items (l ∷ []) k h.list h.is_there;
          same = h.same;
        }

    -- each name has its number
    numbered_now : (q : ListId) → MatchOption (index_of new.numbers q) ⊤ (IsNumbered new q)
    numbered_now q =
        ⊎_elim
        (λ (e : q ≡ id).
        subst (λ p. MatchOption (index_of new.numbers p) ⊤ (IsNumbered new p)) (sym e)
        (subst (λ o. MatchOption o ⊤ (IsNumbered new id)) (sym own_number)
        (record { list = l; is_there = now_there; same = named })))
        (λ (ne : q ≡ id → ⊥).
        still_numbered q (index_of new.numbers q)
        (subst (λ o. MatchOption o ⊤ (IsNumbered old q)) (sym (given.others q ne))
        (listed.numbered q)))
        (same_list q id)

    -- a list with parts is added
    pub one_added : AreListsAdded shapes old new (λ q. q ≡ id)
    one_added = record {
      listed = record {
        entries = entry_of;
        numbered = numbered_now;
        slots_are = λ q h. (given.same_slots q).0 (listed.slots_are q h);
      };
      done = λ q e none.
          absurd (none-some (length old.lists.items)
          (sym none ∙ (ap (index_of new.numbers) e ∙ own_number)));
      others = given.others;
    }

  -- a list of one selection without branches has no choice
  no_choice_of_empty : (id : ListId) → parts_of shapes id ≡ Some (one_of [] ∷ [])
      → IsChosen shapes id → ⊥
  no_choice_of_empty id e h =
      let lists = parts_of shapes in
      let P : Part → Type 0 = λ p. HasChoice (ChoosesAt lists p) in
      let each = (choice_of_each lists (one_of [] ∷ [])).0
      ((choice_of_list lists id (one_of [] ∷ []) e).1 h) in
      let first = ((all_of_more P (one_of []) []).0 each).0 in
      ⊎_elim (λ (t : false ≡ true). absurd (cc))
      (λ (a : Any (IsChosen shapes) []). any_of_none (IsChosen shapes) a)
      ((choice_of_selection lists (record { optional = false; branches = [] })).0 first)

  -- a branch or fields of a variant that is not there have no parts
  no_branch : (shape k : ℕ) → variant_at shapes shape k ≡ None
      → parts_of shapes (of_branch shape k) ≡ None
  no_branch shape k e =
      ap (option_and_then (parts_of_branch shapes shape k (repr_at shapes shape))) e

  no_fields : (shape k : ℕ) → variant_at shapes shape k ≡ None
      → parts_of shapes (of_fields shape k) ≡ None
  no_fields shape k e =
      ap (option_map (λ v. parts_of_fields shapes v.fields.items)) e

  -- a list of a shape that is not there has no choice
  no_choice_of_lacking : (id : ListId) → slice_get shapes (shape_of id) ≡ None
      → IsChosen shapes id → ⊥
  no_choice_of_lacking (of_struct shape) e =
      no_choice_of_no_list (parts_of shapes) (of_struct shape)
      (ap (λ o. parts_of_struct shapes (kind_of o)) e)
  no_choice_of_lacking (of_enum shape) e =
      no_choice_of_empty (of_enum shape)
      (ap (λ o. Some (one_of (branches_from shape 0 (variants_of_kind (kind_of o))) ∷ [])) e)
  no_choice_of_lacking (of_joined shape) e =
      no_choice_of_empty (of_joined shape)
      (ap (λ o. Some (one_of (joined_from shapes shape 0 (variants_of_kind (kind_of o))) ∷ [])) e)
  no_choice_of_lacking (of_branch shape k) e =
      no_choice_of_no_list (parts_of shapes) (of_branch shape k)
      (no_branch shape k (ap (λ o. slice_get (variants_of_kind (kind_of o)) k) e))
  no_choice_of_lacking (of_fields shape k) e =
      no_choice_of_no_list (parts_of shapes) (of_fields shape k)
      (no_fields shape k (ap (λ o. slice_get (variants_of_kind (kind_of o)) k) e))

  -- the lists of the first shapes are added
  pub record AreAddedUpto (every : EveryList) (n : ℕ) : Type 0 where
    pub listed : AreListed shapes every
    pub done : (q : ListId) → shape_of q < n → index_of every.numbers q ≡ None
        → parts_of shapes q ≡ None
    pub free : (q : ListId) → (shape_of q < n → ⊥) → index_of every.numbers q ≡ None

  module _ (every : EveryList) (n : ℕ) (upto : AreAddedUpto every n) (past : length shapes ≤ n)
    where
      -- a list without a number has no choice
      no_choice : (id : ListId) → index_of every.numbers id ≡ None → IsChosen shapes id → ⊥
      no_choice id none =
          ⊎_elim
          (λ (h : shape_of id < n). no_choice_of_no_list (parts_of shapes) id (upto.done id h none))
          (λ (h : n ≤ shape_of id).
          no_choice_of_lacking id (slice_get_past shapes (shape_of id) (omega arith)))
          (lt_or_ge (shape_of id) n)

      -- every list is there, and none is told to have a choice
      pub upto_all : AreFound shapes every
      upto_all = record {
        listed = λ number l there.
            let en = upto.listed.entries number l there in
            record { same = en.same; chosen = λ t. absurd (not_both l.has_choice en.unmarked t) };
        numbered = λ id. go id (index_of every.numbers id) refl (upto.listed.numbered id);
        own = λ number l there. (upto.listed.entries number l there).own;
      }
        where
          not_both : (b : Bool) → b ≡ false → b ≡ true → ⊥
          not_both b e f = cc

          go : (id : ListId) (o : Option ℕ) → index_of every.numbers id ≡ o
              → MatchOption o ⊤ (IsNumbered every id)
              → MatchOption o (IsChosen shapes id → ⊥) (IsNumbered every id)
          go id None e h = no_choice id e
          go id (Some k) e h = h

  module _ (shape : ℕ) where
    -- the struct of a shape and the branches and fields of so many variants
    abbrev pub FirstOf : ℕ → ListId → Type 0
    FirstOf v (of_struct s) = s ≡ shape
    FirstOf v (of_enum s) = ⊥
    FirstOf v (of_joined s) = ⊥
    FirstOf v (of_branch s k) = (s ≡ shape) × (k < v)
    FirstOf v (of_fields s k) = (s ≡ shape) × (k < v)

    -- last are added the enum, and those that join
    pub shape_added : (a b c d : EveryList) (n : ℕ) → AreListsAdded shapes a b (FirstOf n)
        → AreListsAdded shapes b c (λ q. q ≡ of_enum shape)
        → AreListsAdded shapes c d (λ q. q ≡ of_joined shape)
        → length (variants_at shapes shape) ≤ n → AreListsAdded shapes a d (λ q. shape_of q ≡ shape)
    shape_added a b c d n first second third past =
        added_as a d
        (λ q. (FirstOf n q ⊎ (q ≡ of_enum shape)) ⊎ (q ≡ of_joined shape)) (λ q. shape_of q ≡ shape)
        (added_more a c d (λ q. FirstOf n q ⊎ (q ≡ of_enum shape)) (λ q. q ≡ of_joined shape)
        (added_more a b c (FirstOf n) (λ q. q ≡ of_enum shape) first second
        (λ q f e. subst (FirstOf n) e f))
        third not_joined)
        on back
      where
        not_joined : (q : ListId) → FirstOf n q ⊎ (q ≡ of_enum shape) → q ≡ of_joined shape → ⊥
        not_joined q f e =
            ⊎_elim (λ (f : FirstOf n q). subst (FirstOf n) e f) (λ (g : q ≡ of_enum shape). cc) f

        up : (q : ListId) → FirstOf n q → shape_of q ≡ shape
        up (of_struct s) h = h
        up (of_enum s) h = absurd h
        up (of_joined s) h = absurd h
        up (of_branch s k) h = h.0
        up (of_fields s k) h = h.0

        on : (q : ListId) → (FirstOf n q ⊎ (q ≡ of_enum shape)) ⊎ (q ≡ of_joined shape)
            → shape_of q ≡ shape
        on q h =
            ⊎_elim
            (λ (h : FirstOf n q ⊎ (q ≡ of_enum shape)).
            ⊎_elim (up q) (λ (e : q ≡ of_enum shape). ap shape_of e) h)
            (λ (e : q ≡ of_joined shape). ap shape_of e)
            h

        none_past : (s k : ℕ) → s ≡ shape → n ≤ k → variant_at shapes s k ≡ None
        none_past s k e h =
            subst (λ t. variant_at shapes t k ≡ None) (sym e)
            (slice_get_past (variants_at shapes shape) k (omega arith))

        back : (q : ListId) → shape_of q ≡ shape
            → ((FirstOf n q ⊎ (q ≡ of_enum shape)) ⊎ (q ≡ of_joined shape))
            ⊎ (parts_of shapes q ≡ None)
        back (of_struct s) e = inl (inl (inl e))
        back (of_enum s) e = inl (inl (inr (ap of_enum e)))
        back (of_joined s) e = inl (inr (ap of_joined e))
        back (of_branch s k) e =
            ⊎_elim (λ (h : k < n). inl (inl (inl (e, h))))
            (λ (h : n ≤ k). inr (no_branch s k (none_past s k e h))) (lt_or_ge k n)
        back (of_fields s k) e =
            ⊎_elim (λ (h : k < n). inl (inl (inl (e, h))))
            (λ (h : n ≤ k). inr (no_fields s k (none_past s k e h))) (lt_or_ge k n)
