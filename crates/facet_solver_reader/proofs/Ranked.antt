-- Rounds by which shapes are ranked.
use Rattle.std.proofs.Common.{◌≡◌, ◌⊎◌, ℕ, zero, suc, ◌+◌, ◌<◌, Bool, true, false, cond}
use Rattle.std.proofs.Common.{◌&&◌, ◌||◌, List, [], ◌∷◌, ◌++◌, All, Any, Option, Some, None, slice_get}
use Rattle.std.proofs.Common.{length, refl, sym, ap, ◌∙◌, subst, inl, inr, arith, ⊎_elim}
use Rattle.std.proofs.Common.{flat_map}
use Rattle.std.specs.List.{list_all}
use Rattle.std.specs.Option.{unwrap_or}
use Rattle.std.proofs.lemmas.List.Folds.{list_all-append}
use Rattle.std.proofs.lemmas.List.Sums.{AllPass-from_list_all, sum_by-cons}
use Rattle.facet_solver_shape.specs.Catalogues.{Catalogue}
use Rattle.facet_solver_reader.specs.declared.end.End as code
use Rattle.facet_solver_reader.specs.Asking.{ComesTo}
use Rattle.facet_solver_reader.specs.InRange.{AnyList}
use Rattle.facet_solver_reader.specs.Leads.{Contents, ContentHas, EndHas, TargetHas}
use Rattle.facet_solver_reader.specs.Marks.{marked_of}
use Rattle.facet_solver_reader.specs.OrderedLists.{IsMarked}
use Rattle.facet_solver_reader.specs.Parts.{ListId, Target, of_shape, of_content, of_tag}
use Rattle.facet_solver_reader.specs.Ranked.{AreNext, AreEnds, ShapeIsRanked}
use Rattle.facet_solver_reader.specs.Ranked.{asks_marked, content_asks_marked, is_alternative_marked}
use Rattle.facet_solver_reader.specs.Ranked.{is_marked, is_marked_by_kind, is_target_marked}
use Rattle.facet_solver_reader.specs.Reached.{IsRanked, asked_by_end, asked_by_kind}
use Rattle.facet_solver_reader.specs.Reached.{asked_by_content}
use Rattle.facet_solver_reader.specs.Rules as rules
use Rattle.facet_solver_reader.specs.Rules.{Alternative, AlternativeKind, Content, End, joins}
use Rattle.facet_solver_reader.specs.Rules.{a_fallback, other, no_content, as_shape, as_tuple}
use Rattle.facet_solver_reader.specs.Rules.{as_object, an_option, a_truth, a_text, a_character}
use Rattle.facet_solver_reader.specs.Rules.{a_list, a_tuple, a_map, an_object, a_named_variant}
use Rattle.facet_solver_reader.specs.Rules.{an_untagged_variant, anything}
use Rattle.facet_solver_reader.specs.Types.{content_at, end_of, rules_of}
use Rattle.facet_solver_reader.specs.Views.{end_view}
use Rattle.facet_solver_reader.specs.WorkList.{Ends, HasEnd}
use Rattle.facet_solver_reader.proofs.Asked.{any_first, any_after, asked_by_shape_content}
use Rattle.facet_solver_reader.proofs.Quantifiers.{all_of_more, all_of_none}
use Rattle.facet_solver_reader.proofs.Ranks.{ranked_more, ranked_of_content, ranked_tag}

-- what an end asks by what its alternatives ask
module _ (shapes : Catalogue) (marks : List Bool) where
  marked_by_kind : (k : AlternativeKind) (t : Target)
      → is_marked_by_kind k (is_target_marked shapes marks t)
      ≡ list_all (is_target_marked shapes marks) (asked_by_kind k t)
  marked_by_kind joins t = refl
  marked_by_kind rules.null_alone t = refl
  marked_by_kind (rules.a_whole range) t = one (is_target_marked shapes marks t)
    where
      one : (b : Bool) → b ≡ (b && true)
      one true = refl
      one false = refl
  marked_by_kind rules.a_float t = one (is_target_marked shapes marks t)
    where
      one : (b : Bool) → b ≡ (b && true)
      one true = refl
      one false = refl
  marked_by_kind a_fallback t = one (is_target_marked shapes marks t)
    where
      one : (b : Bool) → b ≡ (b && true)
      one true = refl
      one false = refl
  marked_by_kind other t = one (is_target_marked shapes marks t)
    where
      one : (b : Bool) → b ≡ (b && true)
      one true = refl
      one false = refl

  alone_marked : (alone : List Alternative)
      → list_all (is_alternative_marked shapes marks) alone
      ≡ list_all (is_target_marked shapes marks) (flat_map (λ a. asked_by_kind a.kind a.content) alone)
  alone_marked [] = refl
  alone_marked (a ∷ alone) =
      ap (λ b. b && list_all (is_alternative_marked shapes marks) alone) (marked_by_kind a.kind a.content)
      ∙ ap (λ b. list_all (is_target_marked shapes marks) (asked_by_kind a.kind a.content) && b) (alone_marked alone)
      ∙ sym (list_all-append (is_target_marked shapes marks) (asked_by_kind a.kind a.content) _)

  pub end_marked : (e : End)
      → asks_marked shapes marks e ≡ list_all (is_target_marked shapes marks) (asked_by_end e)
  end_marked (an_option id) = one (is_marked marks id)
    where
      one : (b : Bool) → b ≡ (b && true)
      one true = refl
      one false = refl
  end_marked (an_untagged_variant joined alone) = alone_marked alone
  end_marked rules.null_alone = refl
  end_marked a_truth = refl
  end_marked (rules.a_whole range) = refl
  end_marked rules.a_float = refl
  end_marked a_text = refl
  end_marked a_character = refl
  end_marked (a_list id) = refl
  end_marked (a_tuple ids) = refl
  end_marked (a_map key value) = refl
  end_marked (an_object id) = refl
  end_marked (a_named_variant vs) = refl
  end_marked anything = refl

-- what is marked
pub marked_true : (marks : List Bool) (id : ℕ) → is_marked marks id ≡ true → IsMarked marks id
marked_true marks id h = go (slice_get marks id) h
  where
    go : (o : Option Bool) → unwrap_or o false ≡ true → o ≡ Some true
    go None e = absurd (cc)
    go (Some true) e = refl
    go (Some false) e = absurd (cc)

-- what is asked by an end that asks marked shapes alone has a rank
module _ (shapes : Catalogue) (marks : List Bool) (n : ℕ) (ranked : (id : ℕ) → IsMarked marks id → ShapeIsRanked shapes n id) where
  target_ranked : (strict : Bool) (t : Target) → is_target_marked shapes marks t ≡ true
      → IsRanked (suc n) (rules_of shapes strict) t
  target_ranked strict (of_shape id) h =
      ranked_more (rules_of shapes strict) n (suc n) (of_shape id)
      (ranked id (marked_true marks id h) strict) (omega arith)
  target_ranked strict (of_content id k) h =
      ranked_of_content (rules_of shapes strict) n id k
      (λ i e.
      let says : is_marked marks i ≡ true = sym (ap (content_asks_marked marks) e) ∙ h in
      ranked i (marked_true marks i says) strict)
  target_ranked strict (of_tag name) h = ranked_tag (rules_of shapes strict) n name

  pub next_ranked : (id : ℕ) → asks_marked shapes marks (end_of shapes id) ≡ true
      → ShapeIsRanked shapes (suc (suc n)) id
  next_ranked id h strict u asks =
      let all = AllPass-from_list_all (is_target_marked shapes marks) (asked_by_end (end_of shapes id)) (sym (end_marked shapes marks (end_of shapes id)) ∙ h) in
      let here = all asks.0 asks.1 asks.2 in
      let same = asks.3 ∙ asks.4 in
      target_ranked strict u (subst (λ t. is_target_marked shapes marks t ≡ true) same here)

-- some element does not pass
some_fails : {X : Type 0} (p : X → Bool) (xs : List X) → list_all p xs ≡ false
    → Any (λ x. p x ≡ false) xs
some_fails p [] h = absurd (cc)
some_fails p (x ∷ xs) h = go (p x) refl h (some_fails p xs)
  where
    go : (b : Bool) → p x ≡ b → (b && list_all p xs) ≡ false
        → (list_all p xs ≡ false → Any (λ y. p y ≡ false) xs) → Any (λ y. p y ≡ false) (x ∷ xs)
    go false e k rest = any_first (λ y. p y ≡ false) x xs e
    go true e k rest = any_after (λ y. p y ≡ false) x xs (rest k)

-- what an end asks is among what it leads to
module _ (P : ℕ → Type 0) (L : ListId → Type 0) (content : Contents) where
  all_of_both : (xs ys : List Target) → All (λ t. TargetHas P L content t) xs
      → All (λ t. TargetHas P L content t) ys → All (λ t. TargetHas P L content t) (xs ++ ys)
  all_of_both [] ys h k = k
  all_of_both (x ∷ xs) ys h k =
      let parts = (all_of_more (λ t. TargetHas P L content t) x xs).0 h in
      (all_of_more (λ t. TargetHas P L content t) x (xs ++ ys)).1
      (parts.0, all_of_both xs ys parts.1 k)

  one_has : (t : Target) → TargetHas P L content t → All (λ u. TargetHas P L content u) (t ∷ [])
  one_has t h =
      (all_of_more (λ u. TargetHas P L content u) t []).1
      (h, all_of_none (λ u. TargetHas P L content u))

  by_kind_has : (k : AlternativeKind) (t : Target) → TargetHas P L content t
      → All (λ u. TargetHas P L content u) (asked_by_kind k t)
  by_kind_has joins t h = all_of_none (λ u. TargetHas P L content u)
  by_kind_has rules.null_alone t h = all_of_none (λ u. TargetHas P L content u)
  by_kind_has (rules.a_whole range) t h = one_has t h
  by_kind_has rules.a_float t h = one_has t h
  by_kind_has a_fallback t h = one_has t h
  by_kind_has other t h = one_has t h

  alone_has : (alone : List Alternative) → All (λ a. TargetHas P L content a.content) alone
      → All (λ u. TargetHas P L content u) (flat_map (λ a. asked_by_kind a.kind a.content) alone)
  alone_has [] h = all_of_none (λ u. TargetHas P L content u)
  alone_has (a ∷ alone) h =
      let parts = (all_of_more (λ b. TargetHas P L content b.content) a alone).0 h in
      all_of_both (asked_by_kind a.kind a.content) _ (by_kind_has a.kind a.content parts.0) (alone_has alone parts.1)

  asked_has : (e : End) → EndHas P L content e
      → All (λ u. TargetHas P L content u) (asked_by_end e)
  asked_has (an_option id) h = one_has (of_shape id) h
  asked_has (an_untagged_variant joined alone) h = alone_has alone h.1
  asked_has _ h = all_of_none (λ u. TargetHas P L content u)

-- where no more are marked, what is not marked asks without end
module _ (shapes : Catalogue) (ends : Ends) (marks : List Bool) (sound : AreEnds shapes ends) (next : AreNext shapes ends marks marks) (strict : Bool) where
  abbrev On : ℕ → Target → Type 0
  On n t = (u : Target) × ComesTo (rules_of shapes strict) n t u

  abbrev Goes : ℕ → Type 0
  Goes n = (id : ℕ) → HasEnd ends id → is_marked marks id ≡ false → On n (of_shape id)

  abbrev GoesFrom : ℕ → Type 0
  GoesFrom n =
      (t : Target) → TargetHas (HasEnd ends) AnyList (content_at shapes) t
      → is_target_marked shapes marks t ≡ false → On n t

  -- its end asks what is not marked
  asks_more : (id : ℕ) (e : code.End) → slice_get ends id ≡ Some (Some e)
      → is_marked marks id ≡ false → asks_marked shapes marks (end_view e) ≡ false
  asks_more id e is unmarked =
      let after = next.each id (Some e) is in
      go (is_marked marks id) (asks_marked shapes marks (end_view e)) unmarked
      (sym (ap (λ o. unwrap_or o false) after) ∙ unmarked)
    where
      go : (a b : Bool) → a ≡ false → (a || b) ≡ false → b ≡ false
      go true b x y = absurd (cc)
      go false b x y = y

  shape_goes : (n : ℕ) → GoesFrom n → Goes (suc n)
  shape_goes n on id has unmarked =
      let e = has.0 in
      let s = sound.each id e has.1 in
      let fails : list_all (is_target_marked shapes marks) (asked_by_end (end_view e)) ≡ false =
      sym (end_marked shapes marks (end_view e)) ∙ asks_more id e has.1 unmarked
      in
      let some = some_fails (is_target_marked shapes marks) (asked_by_end (end_view e)) fails in
      let all = asked_has (HasEnd ends) AnyList (content_at shapes) (end_view e) s.1 in
      let has = subst (TargetHas (HasEnd ends) AnyList (content_at shapes)) some.3 (all some.0 some.1 some.2) in
      let rest = on some.1 has some.4 in
      let asks : Any (λ a. a ≡ some.1) (asked_by_end (end_view e)) = (some.0, some.1, some.2, some.3, refl) in (
        rest.0,
        record {
          middle = some.1;
          asks = subst (λ x. Any (λ a. a ≡ some.1) (asked_by_end x)) s.0 asks;
          on = rest.1;
        },
      )

  target_goes : (n : ℕ) → Goes n → Goes (suc n) → GoesFrom (suc n)
  target_goes n on here (of_shape id) has unmarked = here id has unmarked
  target_goes n on here (of_content id k) has unmarked = go (content_at shapes id k) refl has unmarked
    where
      go : (c : Content) → content_at shapes id k ≡ c → ContentHas (HasEnd ends) AnyList c
          → content_asks_marked marks c ≡ false → On (suc n) (of_content id k)
      go no_content e h x = absurd (cc)
      go (as_shape i) e h x =
          let rest = on i h x in (
            rest.0,
            record {
              middle = of_shape i;
              asks =
                  subst (λ c. Any (λ a. a ≡ of_shape i) (asked_by_content c)) (sym e)
                  (asked_by_shape_content i);
              on = rest.1;
            },
          )
      go (as_tuple ids) e h x = absurd (cc)
      go (as_object l) e h x = absurd (cc)
  target_goes n on here (of_tag name) has unmarked = absurd (cc)

  both_go : (n : ℕ) → Goes n × GoesFrom n
  both_go zero = (λ id has unmarked. (of_shape id, refl), λ t has unmarked. (t, refl))
  both_go (suc n) =
      let before = both_go n in
      let here = shape_goes n before.1 in
      (here, target_goes n before.0 here)

  pub goes_on : (n id : ℕ) → HasEnd ends id → is_marked marks id ≡ false
      → (u : Target) × ComesTo (rules_of shapes strict) n (of_shape id) u
  goes_on n id has unmarked = (both_go n).0 id has unmarked

-- what a mark counts
abbrev weight : Bool → ℕ
weight b = cond b 1 0

marked_cons : (b : Bool) (xs : List Bool) → marked_of (b ∷ xs) ≡ weight b + marked_of xs
marked_cons b xs = sum_by-cons (λ c. cond c 1 0) b xs

-- marks that grow are more, or the same
pub grown : (xs ys : List Bool) → length ys ≡ length xs
    → ((k : ℕ) → IsMarked xs k → IsMarked ys k)
    → (xs ≡ ys) ⊎ (marked_of xs < marked_of ys)
grown [] [] long more = inl refl
grown [] (y ∷ ys) long more = absurd (omega (arith, long))
grown (x ∷ xs) [] long more = absurd (omega (arith, long))
grown (x ∷ xs) (y ∷ ys) long more =
    go x y (more 0) (grown xs ys (let l : suc (length ys) ≡ suc (length xs) = long in omega arith) (λ k h. more (suc k) h))
  where
    go : (a b : Bool) → (Some a ≡ Some true → Some b ≡ Some true)
        → (xs ≡ ys) ⊎ (marked_of xs < marked_of ys)
        → (◌≡◌ {A = List Bool} (a ∷ xs) (b ∷ ys)) ⊎ (marked_of (a ∷ xs) < marked_of (b ∷ ys))
    go true false m r = absurd (let e : Some false ≡ Some true = m refl in cc)
    go true true m r =
        let c = marked_cons true xs in
        let d = marked_cons true ys in
        ⊎_elim (λ (e : xs ≡ ys). inl (ap (λ zs. true ∷ zs) e))
        (λ (l : marked_of xs < marked_of ys). inr (omega (arith, c, d))) r
    go false false m r =
        let c = marked_cons false xs in
        let d = marked_cons false ys in
        ⊎_elim (λ (e : xs ≡ ys). inl (ap (λ zs. false ∷ zs) e))
        (λ (l : marked_of xs < marked_of ys). inr (omega (arith, c, d))) r
    go false true m r =
        let c = marked_cons false xs in
        let d = marked_cons true ys in
        ⊎_elim (λ (e : xs ≡ ys). inr (let s : marked_of xs ≡ marked_of ys = ap marked_of e in omega (arith, c, d)))
        (λ (l : marked_of xs < marked_of ys). inr (omega (arith, c, d))) r
