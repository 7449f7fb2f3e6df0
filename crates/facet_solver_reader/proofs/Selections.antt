-- The readings of a selection are those of its branches.
use Rattle.std.proofs.Common.{◌≡◌, ◌⊎◌, inl, inr, sym, ap, ◌∙◌, subst, ⊎_elim, ℕ, ◌<◌, ◌+◌, length}
use Rattle.std.proofs.Common.{List, [], ◌∷◌, ◌++◌, refl, if◌then◌else◌, Some, Bool, true, false}
use Rattle.std.proofs.Common.{IsTrue, slice_get, arith}
use Rattle.std.proofs.lemmas.Option.{slice_get_within}
use Rattle.facet_solver_reader.specs.declared.count.Count.{Count}
use Rattle.facet_solver_reader.specs.declared.count.Count.TheVariants.{One, None as NoReading}
use Rattle.facet_solver_reader.specs.Branches.{CanBePresent, Fits, Misfits, ReadsAt, ReadsBelow}
use Rattle.facet_solver_reader.specs.Branches.{ReadsList, ReadsPart}
use Rattle.facet_solver_reader.specs.Choices.{Choice, ChoiceAt, lacking, having, without, choosing}
use Rattle.facet_solver_reader.specs.Choices.{taking, Item, presence_of, presence}
use Rattle.facet_solver_reader.specs.Counted.{Counted, plus}
use Rattle.facet_solver_reader.specs.Known.{Chooses, ChoosesAt, ChoosesBranch, HasChoice, HasKey}
use Rattle.facet_solver_reader.specs.Known.{HasTwice, IsKnown, IsKnownIn, Key}
use Rattle.facet_solver_reader.specs.Objects.{Agrees, Object, Reads, Touches}
use Rattle.facet_solver_reader.specs.Parts.{ListId, Lists, Selection, a_selection}
use Rattle.facet_solver_reader.specs.Rules.{Rules}
use Rattle.facet_solver_reader.proofs.Counting.{counted_images, counted_plus, counted_same}
use Rattle.facet_solver_reader.proofs.Items.{HasKey-right, Agrees-right, Agrees-both}
use Rattle.facet_solver_reader.proofs.Joined.{AreApart, AreImages}

-- a presence has no key
pub key_behind : (s : Selection) (items : List Item) (x : Key)
    → HasKey (presence s ++ items) x → HasKey items x
key_behind s items x n = go s.optional items n
  where
    go : (b : Bool) (items : List Item)
        → HasKey ((if b then presence_of s ∷ [] else []) ++ items) x → HasKey items x
    go true items n = n
    go false items n = n

-- nor has it one twice
pub twice_behind : (s : Selection) (items : List Item)
    → HasTwice (presence s ++ items) → HasTwice items
twice_behind s items n = go s.optional items n
  where
    go : (b : Bool) (items : List Item)
        → HasTwice ((if b then presence_of s ∷ [] else []) ++ items) → HasTwice items
    go true items n = n
    go false items n = n

-- what is there is one list
some_same : {x y : ListId} → Some x ≡ Some y → x ≡ y
some_same p = cc

module _ (lists : Lists) (s : Selection) where
  -- a choice of a branch is one of the selection
  pub branch_chooses : (k : ℕ) (c : Choice) (items : List Item)
      → ChoosesBranch lists s k c items
      → ChoosesAt lists (a_selection s) (choosing k c) (presence s ++ items)
  branch_chooses k c items h = record { of_branch = items; chooses = h; items_are = refl }

  -- what a branch knows the selection knows
  pub known_by_branch : (x : Key)
      → IsKnownIn lists s x → IsKnown (ChoosesAt lists (a_selection s)) x
  known_by_branch x k =
      record {
        choice = choosing k.branch k.choice;
        items = presence s ++ k.items;
        chooses = branch_chooses k.branch k.choice k.items k.chooses;
        has = HasKey-right (presence s) k.items x k.has;
      }

  -- what a selection knows, a branch knows
  pub known_in_branch : (x : Key)
      → IsKnown (ChoosesAt lists (a_selection s)) x → IsKnownIn lists s x
  known_in_branch x k = go k.choice k.items k.chooses k.has
    where
      go : (a : ChoiceAt) (items : List Item)
          → ChoosesAt lists (a_selection s) a items → HasKey items x → IsKnownIn lists s x
      go lacking items h n = absurd h
      go (having q) items h n = absurd h
      go without items h n = absurd (subst (λ is. HasKey is x) h.1 n)
      go (taking t) items h n = absurd h
      go (choosing k c) items h n =
          record {
            branch = k;
            choice = c;
            items = h.of_branch;
            chooses = h.chooses;
            has = key_behind s h.of_branch x (subst (λ is. HasKey is x) h.items_are n);
          }

  -- a choice of the k-th branch is one of its list
  pub choice_at : (k : ℕ) (id : ListId) (c : Choice) (items : List Item)
      → slice_get s.branches k ≡ Some id
      → ChoosesBranch lists s k c items → Chooses lists id c items
  choice_at k id c items e h =
      subst (λ l. Chooses lists l c items) (some_same (sym h.branch_is ∙ e)) h.chooses

module _ (rules : Rules) (reads : Reads) (object : Object) (s : Selection) where
  -- a reading of the selection
  abbrev R : ChoiceAt → Type 0
  R = ReadsPart rules reads object (a_selection s)

  -- the presence is as the object has it
  presence_agrees : CanBePresent rules object s → Agrees rules reads object (presence s)
  presence_agrees p = go s.optional refl
    where
      go : (b : Bool) → s.optional ≡ b
          → Agrees rules reads object (if b then presence_of s ∷ [] else [])
      go true q =
          let touches =
          ⊎_elim (λ (f : s.optional ≡ false). absurd (cc)) (λ (t : Touches rules object s). t) p in
          (touches, tt)
      go false q = tt

  -- what the chosen branch of a reading has
  branch_known : (j : ℕ) (c : Choice) (w : R (choosing j c)) (x : Key)
      → HasKey w.items x → HasKey w.chooses.of_branch x
  branch_known j c w x n =
      key_behind s w.chooses.of_branch x (subst (λ is. HasKey is x) w.chooses.items_are n)

  module _ (k : ℕ) (id : ListId) (e : slice_get s.branches k ≡ Some id) where
    -- the choice of a reading at the branch reads the object by its list
    pub list_reads : (j : ℕ) (c : Choice) → ReadsAt R k (choosing j c)
        → ReadsList rules reads object id c
    list_reads j c w =
        let r = w.1 in
        let of_branch = r.chooses.of_branch in
        record {
          items = of_branch;
          chooses = choice_at rules.lists s j id c of_branch
              (ap (slice_get s.branches) w.0 ∙ e) r.chooses.chooses;
          known = λ x has known.
              branch_known j c r x
              (r.known x has (known_by_branch rules.lists s x (record {
                branch = k;
                choice = known.choice;
                items = known.items;
                chooses = record { list = id; branch_is = e; chooses = known.chooses };
                has = known.has;
              })));
          agrees = Agrees-right rules reads object (presence s) of_branch
              (subst (Agrees rules reads object) r.chooses.items_are r.agrees);
        }

    -- the readings of a branch whose list fits are those of the list
    pub at_branch : Fits rules object s id → CanBePresent rules object s
        → AreImages (ReadsList rules reads object id)
        (ReadsAt (ReadsPart rules reads object (a_selection s)) k) (choosing k)
    at_branch fits present = record { into = into; out = out; same = λ x y p. cc }
      where
        into : (c : Choice) → ReadsList rules reads object id c → ReadsAt R k (choosing k c)
        into c r = (
          refl,
          record {
            items = presence s ++ r.items;
            chooses = branch_chooses rules.lists s k c r.items
                (record { list = id; branch_is = e; chooses = r.chooses });
            known = λ x has known.
                HasKey-right (presence s) r.items x
                (r.known x has (fits x has (known_in_branch rules.lists s x known)));
            agrees = Agrees-both rules reads object (presence s) r.items
                (presence_agrees present) r.agrees;
          },
        )

        out : (z : ChoiceAt) → ReadsAt R k z
            → (c : Choice) × ReadsList rules reads object id c × (z ≡ choosing k c)
        out lacking w = absurd w
        out (having q) w = absurd w
        out without w = absurd w
        out (taking t) w = absurd w
        out (choosing j c) w = (c, list_reads j c w, ap (λ i. choosing i c) w.0)

    -- the only branch of a selection has all that the selection knows
    pub only_fits : length s.branches ≡ 1 → Fits rules object s id
    only_fits one x has known =
        let within = slice_get_within s.branches k id e in
        let there = slice_get_within s.branches known.branch known.chooses.list
        known.chooses.branch_is in
        let same : known.branch ≡ k = omega (arith, within, there, one) in
        let is : known.chooses.list ≡ id =
        some_same (sym known.chooses.branch_is ∙ (ap (slice_get s.branches) same ∙ e)) in
        subst (λ i. IsKnown (Chooses rules.lists i) x) is
        (record {
          choice = known.choice;
          items = known.items;
          chooses = known.chooses.chooses;
          has = known.has;
        })

    -- the count at a branch whose list fits
    pub count_at_branch : (n : Count) → Fits rules object s id → CanBePresent rules object s
        → Counted (ReadsList rules reads object id) n
        → Counted (ReadsAt (ReadsPart rules reads object (a_selection s)) k) n
    count_at_branch n fits present h =
        counted_images (ReadsList rules reads object id) (ReadsAt R k) (choosing k) n
        (at_branch fits present) h

    -- a branch whose list does not fit has no reading
    pub count_at_misfit : Misfits rules object s id
        → Counted (ReadsAt (ReadsPart rules reads object (a_selection s)) k) NoReading
    count_at_misfit m = none
      where
        none : (z : ChoiceAt) → ReadsAt R k z → ⊥
        none lacking w = w
        none (having q) w = w
        none without w = w
        none (taking t) w = w
        none (choosing j c) w =
            let r = w.1 in
            m.unknown (record {
              choice = c;
              items = r.chooses.of_branch;
              chooses = choice_at rules.lists s j id c r.chooses.of_branch
                  (ap (slice_get s.branches) w.0 ∙ e) r.chooses.chooses;
              has = branch_known j c r m.key
                  (r.known m.key m.has (known_by_branch rules.lists s m.key m.known));
            })

    -- nor has one whose list has none
    pub count_at_none : Counted (ReadsList rules reads object id) NoReading
        → Counted (ReadsAt (ReadsPart rules reads object (a_selection s)) k) NoReading
    count_at_none h = none
      where
        none : (z : ChoiceAt) → ReadsAt R k z → ⊥
        none lacking w = w
        none (having q) w = w
        none without w = w
        none (taking t) w = w
        none (choosing j c) w = h c (list_reads j c w)

    -- nor has one whose list has no choice
    pub count_at_no_choice : (HasChoice (Chooses rules.lists id) → ⊥)
        → Counted (ReadsAt (ReadsPart rules reads object (a_selection s)) k) NoReading
    count_at_no_choice no_choice = none
      where
        none : (z : ChoiceAt) → ReadsAt R k z → ⊥
        none lacking w = w
        none (having q) w = w
        none without w = w
        none (taking t) w = w
        none (choosing j c) w =
            let b = w.1.chooses in
            no_choice (record {
              choice = c;
              items = b.of_branch;
              chooses = choice_at rules.lists s j id c b.of_branch
                  (ap (slice_get s.branches) w.0 ∙ e) b.chooses;
            })

  -- no branch is before the first
  pub count_below_none :
      Counted (ReadsBelow (ReadsPart rules reads object (a_selection s)) 0) NoReading
  count_below_none = none
    where
      none : (z : ChoiceAt) → ReadsBelow R 0 z → ⊥
      none lacking w = w
      none (having q) w = w
      none without w = w
      none (taking t) w = w
      none (choosing j c) w = omega (arith, w.0)

  -- the readings by one branch more are apart from those before
  pub branches_apart : (k : ℕ)
      → AreApart (ReadsBelow (ReadsPart rules reads object (a_selection s)) k)
      (ReadsAt (ReadsPart rules reads object (a_selection s)) k)
      (ReadsBelow (ReadsPart rules reads object (a_selection s)) (k + 1))
  branches_apart k =
      record { into_first = into_first; into_second = into_second; out = out; apart = apart }
    where
      into_first : (z : ChoiceAt) → ReadsBelow R k z → ReadsBelow R (k + 1) z
      into_first lacking w = w
      into_first (having q) w = w
      into_first without w = w
      into_first (taking t) w = w
      into_first (choosing j c) w = let h : j < k = w.0 in (omega arith, w.1)

      into_second : (z : ChoiceAt) → ReadsAt R k z → ReadsBelow R (k + 1) z
      into_second lacking w = w
      into_second (having q) w = w
      into_second without w = w
      into_second (taking t) w = w
      into_second (choosing j c) w = let h : j ≡ k = w.0 in (omega arith, w.1)

      out : (z : ChoiceAt) → ReadsBelow R (k + 1) z → ReadsBelow R k z ⊎ ReadsAt R k z
      out lacking w = inl w
      out (having q) w = inl w
      out without w = inl w
      out (taking t) w = inl w
      out (choosing j c) w =
          ⊎_elim (λ (h : j < k). inl (h, w.1)) (λ (h : j ≡ k). inr (h, w.1)) (lt_or_eq w.0)
        where
          lt_or_eq : j < k + 1 → (j < k) ⊎ (j ≡ k)
          lt_or_eq h = grind arith

      apart : (z : ChoiceAt) → ReadsBelow R k z → ReadsAt R k z → ⊥
      apart lacking w v = w
      apart (having q) w v = w
      apart without w v = w
      apart (taking t) w v = w
      apart (choosing j c) w v = let g : j < k = w.0 in let h : j ≡ k = v.0 in omega arith

  -- one branch more is the sum
  pub count_below_more : (k : ℕ) (a b : Count)
      → Counted (ReadsBelow (ReadsPart rules reads object (a_selection s)) k) a
      → Counted (ReadsAt (ReadsPart rules reads object (a_selection s)) k) b
      → Counted (ReadsBelow (ReadsPart rules reads object (a_selection s)) (k + 1)) (plus a b)
  count_below_more k a b f g =
      counted_plus (ReadsBelow R k) (ReadsAt R k) (ReadsBelow R (k + 1)) a b (branches_apart k) f g

  -- a reading by a branch is one of the selection
  pub of_branches : (z : ChoiceAt)
      → ReadsBelow (ReadsPart rules reads object (a_selection s)) (length s.branches) z
      → ReadsPart rules reads object (a_selection s) z
  of_branches lacking w = absurd w
  of_branches (having q) w = absurd w
  of_branches without w = absurd w
  of_branches (taking t) w = absurd w
  of_branches (choosing j c) w = w.1

  -- a reading of a selection that can be present is one by a branch
  pub by_branches : CanBePresent rules object s
      → (z : ChoiceAt) → ReadsPart rules reads object (a_selection s) z
      → ReadsBelow (ReadsPart rules reads object (a_selection s)) (length s.branches) z
  by_branches present lacking r = r.chooses
  by_branches present (having q) r = r.chooses
  by_branches present (taking t) r = r.chooses
  by_branches present without r =
      ⊎_elim
      (λ (f : s.optional ≡ false). let t : s.optional ≡ true = r.chooses.0 in absurd (cc))
      (λ (t : Touches rules object s).
      subst (λ is. HasKey is t.key) r.chooses.1
      (r.known t.key t.has (known_by_branch rules.lists s t.key t.known)))
      present
  by_branches present (choosing j c) r =
      let b = r.chooses.chooses in (slice_get_within s.branches j b.list b.branch_is, r)

  -- a selection that can be present is read by its branches
  pub count_of_present : (n : Count) → CanBePresent rules object s
      → Counted (ReadsBelow (ReadsPart rules reads object (a_selection s)) (length s.branches)) n
      → Counted (ReadsPart rules reads object (a_selection s)) n
  count_of_present n present h =
      counted_same (ReadsBelow R (length s.branches)) R n of_branches (by_branches present) h

  -- an optional selection of which the object has no key can be absent
  pub reads_absent : IsTrue s.optional → (Touches rules object s → ⊥)
      → ReadsPart rules reads object (a_selection s) without
  reads_absent optional untouched =
      record {
        items = [];
        chooses = (optional, refl);
        known = λ x has k.
            absurd (untouched
            (record { key = x; has = has; known = known_in_branch rules.lists s x k }));
        agrees = tt;
      }

  -- and has no other reading
  pub count_of_absent : IsTrue s.optional → (Touches rules object s → ⊥)
      → Counted (ReadsPart rules reads object (a_selection s)) One
  count_of_absent optional untouched =
      record { value = without; has = reads_absent optional untouched; only = only }
    where
      first_touches : (items : List Item) (b : Bool) → b ≡ true
          → Agrees rules reads object ((if b then presence_of s ∷ [] else []) ++ items)
          → Touches rules object s
      first_touches items true e a = a.0
      first_touches items false e a = absurd (cc)

      only : (z : ChoiceAt) → R z → z ≡ without
      only lacking r = absurd r.chooses
      only (having q) r = absurd r.chooses
      only (taking t) r = absurd r.chooses
      only without r = refl
      only (choosing j c) r =
          let b = r.chooses in
          absurd (untouched (first_touches b.of_branch s.optional optional
          (subst (Agrees rules reads object) b.items_are r.agrees)))
