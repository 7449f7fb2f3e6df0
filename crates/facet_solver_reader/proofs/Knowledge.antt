-- Which keys the choices of parts, of lists and of branches have, and where there is a choice.
use Rattle.std.proofs.Common.{◌≡◌, ◌⊎◌, ◌↔◌, inl, inr, subst, ⊎_elim}
use Rattle.std.proofs.Common.{List, [], ◌∷◌, ◌++◌, refl, None}
use Rattle.std.proofs.Common.{IsTrue}
use Rattle.std.specs.List.{All, Any}
use Rattle.facet_solver_reader.specs.Choices.{Choice, done, next, ChoiceAt, lacking, having}
use Rattle.facet_solver_reader.specs.Choices.{without, choosing, taking, none_left, Choosing, Item}
use Rattle.facet_solver_reader.specs.Choices.{member_of, catch_all_of, presence}
use Rattle.facet_solver_reader.specs.Known.{Chooses, ChoosesAll, ChoosesAt, HasChoice, HasKey}
use Rattle.facet_solver_reader.specs.Known.{IsDistinct, IsKnown, IsKnownIn, Key, named, rest}
use Rattle.facet_solver_reader.specs.Parts.{CatchAll, Lists, MemberPart, Part, Selection, a_member}
use Rattle.facet_solver_reader.specs.Parts.{a_catch_all, a_selection}
use Rattle.facet_solver_reader.proofs.Items.{HasKey-left, HasKey-right}
use Rattle.facet_solver_reader.proofs.Products.{both_choose, known_in_either, known_to_none}
use Rattle.facet_solver_reader.proofs.Quantifiers.{all_of_more, all_of_none, any_at, any_is_at}
use Rattle.facet_solver_reader.proofs.Quantifiers.{any_of_more, any_of_none}
use Rattle.facet_solver_reader.proofs.Selections.{branch_chooses, known_by_branch, known_in_branch}

module _ {X : Type 0} (S : Choosing X) where
  -- a known key is one of a choice
  pub known_has_choice : (x : Key) → IsKnown S x → HasChoice S
  known_has_choice x k = record { choice = k.choice; items = k.items; chooses = k.chooses }

  module _ (none : HasChoice S → ⊥) where
    -- without a choice no key stands twice
    pub distinct_of_no_choice : IsDistinct S
    distinct_of_no_choice x items h t =
        none (record { choice = x; items = items; chooses = h })

module _ (lists : Lists) where
  -- a member has a choice
  pub choice_of_member : (m : MemberPart) → HasChoice (ChoosesAt lists (a_member m))
  choice_of_member m = record { choice = lacking; items = member_of m None ∷ []; chooses = refl }

  -- a member is known by its name alone
  pub known_of_member : (m : MemberPart) (x : Key)
      → IsKnown (ChoosesAt lists (a_member m)) x ↔ (named m.name ≡ x)
  known_of_member m x = (
    λ k. go k.choice k.items k.chooses k.has,
    λ e. record { choice = lacking; items = member_of m None ∷ []; chooses = refl; has = inl e },
  )
    where
      alone : named m.name ≡ x ⊎ ⊥ → named m.name ≡ x
      alone h = ⊎_elim (λ (e : named m.name ≡ x). e) (λ (n : ⊥). absurd n) h

      go : (a : ChoiceAt) (items : List Item)
          → ChoosesAt lists (a_member m) a items → HasKey items x → named m.name ≡ x
      go lacking items h n = alone (subst (λ is. HasKey is x) h n)
      go (having r) items h n = alone (subst (λ is. HasKey is x) h n)
      go without items h n = absurd h
      go (choosing k c) items h n = absurd h
      go (taking t) items h n = absurd h

  -- a catch-all has a choice
  pub choice_of_catch_all : (k : CatchAll) → HasChoice (ChoosesAt lists (a_catch_all k))
  choice_of_catch_all k =
      record { choice = taking none_left; items = catch_all_of k none_left ∷ []; chooses = refl }

  -- a catch-all is known by the rest alone
  pub known_of_catch_all : (k : CatchAll) (x : Key)
      → IsKnown (ChoosesAt lists (a_catch_all k)) x ↔ (rest ≡ x)
  known_of_catch_all kind x = (
    λ k. go k.choice k.items k.chooses k.has,
    λ e.
        record {
          choice = taking none_left;
          items = catch_all_of kind none_left ∷ [];
          chooses = refl;
          has = inl e;
        },
  )
    where
      go : (a : ChoiceAt) (items : List Item)
          → ChoosesAt lists (a_catch_all kind) a items → HasKey items x → rest ≡ x
      go (taking t) items h n =
          ⊎_elim (λ (e : rest ≡ x). e) (λ (n : ⊥). absurd n) (subst (λ is. HasKey is x) h n)
      go lacking items h n = absurd h
      go (having r) items h n = absurd h
      go without items h n = absurd h
      go (choosing k c) items h n = absurd h

  -- a key is known in a selection where the list of some branch knows it
  pub known_in_some : (s : Selection) (x : Key)
      → IsKnownIn lists s x ↔ Any (λ id. IsKnown (Chooses lists id) x) s.branches
  known_in_some s x = (
    λ k.
        any_at (λ id. IsKnown (Chooses lists id) x) s.branches k.branch k.chooses.list
        k.chooses.branch_is
        (record {
          choice = k.choice;
          items = k.items;
          chooses = k.chooses.chooses;
          has = k.has;
        }),
    λ a.
        record {
          branch = a.0;
          choice = a.4.choice;
          items = a.4.items;
          chooses = record {
            list = a.1;
            branch_is = any_is_at (λ id. IsKnown (Chooses lists id) x) s.branches a;
            chooses = a.4.chooses;
          };
          has = a.4.has;
        },
  )

  -- a selection is known by the keys that are known in it
  pub known_of_selection : (s : Selection) (x : Key)
      → IsKnown (ChoosesAt lists (a_selection s)) x ↔ IsKnownIn lists s x
  known_of_selection s x = (λ k. known_in_branch lists s x k, λ k. known_by_branch lists s x k)

  -- a selection has a choice where it is optional, or the list of some branch has one
  pub choice_of_selection : (s : Selection)
      → HasChoice (ChoosesAt lists (a_selection s))
      ↔ (IsTrue s.optional ⊎ Any (λ id. HasChoice (Chooses lists id)) s.branches)
  choice_of_selection s = (
    λ h. out h.choice h.items h.chooses,
    λ e. ⊎_elim absent (λ (a : Any (λ id. HasChoice (Chooses lists id)) s.branches). present a) e,
  )
    where
      out : (a : ChoiceAt) (items : List Item) → ChoosesAt lists (a_selection s) a items
          → IsTrue s.optional ⊎ Any (λ id. HasChoice (Chooses lists id)) s.branches
      out lacking items h = absurd h
      out (having r) items h = absurd h
      out without items h = inl h.0
      out (taking t) items h = absurd h
      out (choosing k c) items h =
          let b = h.chooses in
          inr (any_at (λ id. HasChoice (Chooses lists id)) s.branches k b.list b.branch_is
          (record { choice = c; items = h.of_branch; chooses = b.chooses }))

      absent : IsTrue s.optional → HasChoice (ChoosesAt lists (a_selection s))
      absent t = record { choice = without; items = []; chooses = (t, refl) }

      present : (a : Any (λ id. HasChoice (Chooses lists id)) s.branches)
          → HasChoice (ChoosesAt lists (a_selection s))
      present a =
          record {
            choice = choosing a.0 a.4.choice;
            items = presence s ++ a.4.items;
            chooses = branch_chooses lists s a.0 a.4.choice a.4.items (record {
              list = a.1;
              branch_is = any_is_at (λ id. HasChoice (Chooses lists id)) s.branches a;
              chooses = a.4.chooses;
            });
          }

  -- no parts have a choice
  pub choice_of_none : HasChoice (ChoosesAll lists [])
  choice_of_none = record { choice = done; items = []; chooses = refl }

  module _ (p : Part) (ps : List Part) where
    -- parts have a choice where the first has one, and the rest
    pub choice_of_more : HasChoice (ChoosesAll lists (p ∷ ps))
        ↔ (HasChoice (ChoosesAt lists p) × HasChoice (ChoosesAll lists ps))
    choice_of_more = (
      λ h. out h.choice h.items h.chooses,
      λ h.
          record {
            choice = next h.0.choice h.1.choice;
            items = h.0.items ++ h.1.items;
            chooses = both_choose lists p ps h.0.choice h.1.choice h.0.items h.1.items
                h.0.chooses h.1.chooses;
          },
    )
      where
        out : (c : Choice) (items : List Item) → ChoosesAll lists (p ∷ ps) c items
            → HasChoice (ChoosesAt lists p) × HasChoice (ChoosesAll lists ps)
        out done items h = absurd h
        out (next a c) items h = (
          record { choice = a; items = h.first; chooses = h.chooses_first },
          record { choice = c; items = h.second; chooses = h.chooses_second },
        )

    -- a key of the first part, where the rest has a choice
    pub known_by_first : (x : Key)
        → IsKnown (ChoosesAt lists p) x → HasChoice (ChoosesAll lists ps)
        → IsKnown (ChoosesAll lists (p ∷ ps)) x
    known_by_first x k h =
        record {
          choice = next k.choice h.choice;
          items = k.items ++ h.items;
          chooses = both_choose lists p ps k.choice h.choice k.items h.items k.chooses h.chooses;
          has = HasKey-left k.items h.items x k.has;
        }

    -- a key of the rest, where the first part has a choice
    pub known_by_rest : (x : Key)
        → HasChoice (ChoosesAt lists p) → IsKnown (ChoosesAll lists ps) x
        → IsKnown (ChoosesAll lists (p ∷ ps)) x
    known_by_rest x h k =
        record {
          choice = next h.choice k.choice;
          items = h.items ++ k.items;
          chooses = both_choose lists p ps h.choice k.choice h.items k.items h.chooses k.chooses;
          has = HasKey-right h.items k.items x k.has;
        }

  -- parts have a choice where each has one
  pub choice_of_each : (ps : List Part)
      → HasChoice (ChoosesAll lists ps) ↔ All (λ p. HasChoice (ChoosesAt lists p)) ps
  choice_of_each ps = (out ps, into ps)
    where
      out : (ps : List Part) → HasChoice (ChoosesAll lists ps)
          → All (λ p. HasChoice (ChoosesAt lists p)) ps
      out [] h = all_of_none (λ p. HasChoice (ChoosesAt lists p))
      out (p ∷ ps) h =
          let b = (choice_of_more p ps).0 h in
          (all_of_more (λ p. HasChoice (ChoosesAt lists p)) p ps).1 (b.0, out ps b.1)

      into : (ps : List Part) → All (λ p. HasChoice (ChoosesAt lists p)) ps
          → HasChoice (ChoosesAll lists ps)
      into [] a = choice_of_none
      into (p ∷ ps) a =
          let b = (all_of_more (λ p. HasChoice (ChoosesAt lists p)) p ps).0 a in
          (choice_of_more p ps).1 (b.0, into ps b.1)

  -- parts that have a choice know what some of them knows
  pub known_of_some : (ps : List Part) (x : Key)
      → IsKnown (ChoosesAll lists ps) x
      ↔ (HasChoice (ChoosesAll lists ps) × Any (λ p. IsKnown (ChoosesAt lists p) x) ps)
  known_of_some ps x = (
    λ k. (known_has_choice (ChoosesAll lists ps) x k, out ps k),
    λ h. into ps h.0 h.1,
  )
    where
      out : (ps : List Part) → IsKnown (ChoosesAll lists ps) x
          → Any (λ p. IsKnown (ChoosesAt lists p) x) ps
      out [] k = absurd (known_to_none lists x k)
      out (p ∷ ps) k =
          (any_of_more (λ p. IsKnown (ChoosesAt lists p) x) p ps).1
          (⊎_elim (λ (m : IsKnown (ChoosesAt lists p) x). inl m)
          (λ (m : IsKnown (ChoosesAll lists ps) x). inr (out ps m))
          (known_in_either lists p ps x k))

      into : (ps : List Part) → HasChoice (ChoosesAll lists ps)
          → Any (λ p. IsKnown (ChoosesAt lists p) x) ps → IsKnown (ChoosesAll lists ps) x
      into [] h a = absurd (any_of_none (λ p. IsKnown (ChoosesAt lists p) x) a)
      into (p ∷ ps) h a =
          let b = (choice_of_more p ps).0 h in
          ⊎_elim (λ (m : IsKnown (ChoosesAt lists p) x). known_by_first p ps x m b.1)
          (λ (m : Any (λ p. IsKnown (ChoosesAt lists p) x) ps).
          known_by_rest p ps x b.0 (into ps b.1 m))
          ((any_of_more (λ p. IsKnown (ChoosesAt lists p) x) p ps).0 a)
