-- What a document comes to is met.
use Rattle.std.proofs.Common.{◌≡◌, ⊎_elim, inl, inr, refl, sym, ap, subst, ◌∙◌, ℕ, zero, suc}
use Rattle.std.proofs.Common.{Bool, List, [], ◌∷◌, ◌++◌, Some, None, slice_get, get_or}
use Rattle.std.specs.List.{All, Any}
use Rattle.std.specs.Option.{option_map}
use Rattle.std.proofs.lemmas.Option.{slice_get-get_or, slice_get-map}
use Rattle.facet_solver_shape.specs.Catalogues.{Catalogue}
use Rattle.facet_solver_reader.specs.Choices.{Choosing, Item, member_of, catch_all_of, next, choosing, lacking, taking, none_left, presence}
use Rattle.facet_solver_reader.specs.EveryList.{IsChosen}
use Rattle.facet_solver_reader.specs.Known.{Chooses, ChoosesAll, ChoosesAt, HasChoice}
use Rattle.facet_solver_reader.specs.Met.{ContentIsMet, EndIsMet, IfChosen, IsMet, ListIsMet, MeetsNext, PartIsMet, ShapeIsMet, TargetIsMet, variants_of, variants_of_end}
use Rattle.facet_solver_reader.specs.OrderedLists.{ComesIn, HasBranch, IsBranchOf}
use Rattle.facet_solver_reader.specs.Parts.{of_map, of_anything, ListId, Lists, Part, a_member, a_selection, a_catch_all, Selection, Target, of_shape, of_content, of_tag}
use Rattle.facet_solver_reader.specs.Reached.{asked, asked_by_content, asked_by_end, list_of, list_of_content, list_of_end, read_by_item, within, within_content, within_end}
use Rattle.facet_solver_reader.specs.Rules.{Alternative, Content, End, NamedVariant, no_content, as_shape, as_tuple, as_object, an_option, a_list, a_tuple, a_map, an_object, a_named_variant, an_untagged_variant}
use Rattle.facet_solver_reader.specs.Types.{content_at, end_of, parts_of, rules_of}
use Rattle.facet_solver_reader.proofs.Knowledge.{choice_of_more}
use Rattle.facet_solver_reader.proofs.Lists.{choice_of_list, choices_of_list}
use Rattle.facet_solver_reader.proofs.Products.{both_choose}
use Rattle.facet_solver_reader.proofs.Quantifiers.{all_from, any_at, any_is_at, any_of_more, any_of_none}
use Rattle.facet_solver_reader.proofs.Selections.{branch_chooses}

-- some of one list is some of both
some_left : {X : Type 0} (P : X → Type 0) (xs ys : List X) → Any P xs → Any P (xs ++ ys)
some_left P [] ys a = absurd (any_of_none P a)
some_left {X} P (x ∷ xs) ys a =
    ⊎_elim (λ (p : P x). (any_of_more P x (xs ++ ys)).1 (inl p))
    (λ (b : Any P xs). (any_of_more P x (xs ++ ys)).1 (inr (some_left P xs ys b)))
    ((any_of_more P x xs).0 a)

some_right : {X : Type 0} (P : X → Type 0) (xs ys : List X) → Any P ys → Any P (xs ++ ys)
some_right P [] ys a = a
some_right P (x ∷ xs) ys a = (any_of_more P x (xs ++ ys)).1 (inr (some_right P xs ys a))

-- some choice has an item with a property
pub record Offers {X : Type 0} (S : Choosing X) (P : Item → Type 0) : Type 0 where
  pub choice : X
  pub items : List Item
  pub chooses : S choice items
  pub has : Any P items

module _ (lists : Lists) (P : Item → Type 0) where
  -- what one part offers, all parts do, where they have a choice
  offers_all : (ps : List Part) (k : ℕ) (p : Part) → HasChoice (ChoosesAll lists ps)
      → slice_get ps k ≡ Some p → Offers (ChoosesAt lists p) P → Offers (ChoosesAll lists ps) P
  offers_all [] k p h at o = let no : None ≡ Some p = at in absurd (cc)
  offers_all (q ∷ ps) zero p h at o =
      let rest = ((choice_of_more lists q ps).0 h).1 in
      let some : Some q ≡ Some p = at in
      let same : p ≡ q = cc in
      let here = subst (λ r. Offers (ChoosesAt lists r) P) same o in
      record {
        choice = next here.choice rest.choice;
        items = here.items ++ rest.items;
        chooses = both_choose lists q ps here.choice rest.choice here.items rest.items here.chooses rest.chooses;
        has = some_left P here.items rest.items here.has;
      }
  offers_all (q ∷ ps) (suc k) p h at o =
      let both = (choice_of_more lists q ps).0 h in
      let first = both.0 in
      let rest = offers_all ps k p both.1 at o in
      record {
        choice = next first.choice rest.choice;
        items = first.items ++ rest.items;
        chooses = both_choose lists q ps first.choice rest.choice first.items rest.items first.chooses rest.chooses;
        has = some_right P first.items rest.items rest.has;
      }

  -- what a branch offers, its selection does
  offers_selection : (s : Selection) (k : ℕ) (id : ListId) → slice_get s.branches k ≡ Some id
      → Offers (Chooses lists id) P → Offers (ChoosesAt lists (a_selection s)) P
  offers_selection s k id at o = record {
    choice = choosing k o.choice;
    items = presence s ++ o.items;
    chooses = branch_chooses lists s k o.choice o.items (record { list = id; branch_is = at; chooses = o.chooses });
    has = some_right P (presence s) o.items o.has;
  }

  -- what its parts offer, a list does
  offers_list : (id : ListId) (ps : List Part) → lists id ≡ Some ps
      → Offers (ChoosesAll lists ps) P → Offers (Chooses lists id) P
  offers_list id ps e o = record {
    choice = o.choice;
    items = o.items;
    chooses = (choices_of_list lists id ps e o.choice o.items).0 o.chooses;
    has = o.has;
  }

  -- what a branch offers, a list with it does
  offers_branch : (id : ListId) (ps : List Part) (k : ℕ) (p : Part) (branch : ListId) → lists id ≡ Some ps
      → HasChoice (Chooses lists id) → slice_get ps k ≡ Some p → IsBranchOf branch p
      → Offers (Chooses lists branch) P → Offers (Chooses lists id) P
  offers_branch id ps k (a_member m) branch e h at is o = absurd is
  offers_branch id ps k (a_catch_all c) branch e h at is o = absurd is
  offers_branch id ps k (a_selection s) branch e h at is o =
      offers_list id ps e
      (offers_all ps k (a_selection s) ((choice_of_list lists id ps e).1 h) at
      (offers_selection s is.0 branch (any_is_at (λ b. b ≡ branch) s.branches is ∙ ap Some is.4) o))

module _ (shapes : Catalogue) where
  -- what a list offers, each from which choices go through it does
  offers_through : (P : Item → Type 0) (n : ℕ) (id last : ListId) → ComesIn n shapes id last
      → IsChosen shapes id → Offers (Chooses (parts_of shapes) last) P
      → Offers (Chooses (parts_of shapes) id) P
  offers_through P zero id last c h o =
      subst (λ q. Offers (Chooses (parts_of shapes) q) P) (sym c) o
  offers_through P (suc n) id last c h o =
      let b = c.1 in
      offers_branch (parts_of shapes) P id b.parts b.is_branch.0 b.is_branch.1 c.0 b.parts_are h
      (any_is_at (IsBranchOf c.0) b.parts b.is_branch) b.is_branch.4
      (offers_through P n c.0 last c.2 b.chosen o)

  -- a last list of such a way has a choice
  chosen_last : (n : ℕ) (id last : ListId) → ComesIn n shapes id last → IsChosen shapes id
      → IsChosen shapes last
  chosen_last zero id last c h = subst (IsChosen shapes) c h
  chosen_last (suc n) id last c h = chosen_last n c.0 last c.2 c.1.chosen

  -- one branch more
  comes_on : (n : ℕ) (id last branch : ListId) → ComesIn n shapes id last
      → HasBranch shapes last branch → ComesIn (suc n) shapes id branch
  comes_on zero id last branch c b =
      (branch, subst (λ q. HasBranch shapes q branch) (sym c) b, refl)
  comes_on (suc n) id last branch c b = (c.0, c.1, comes_on n c.0 last branch c.2 b)

module _ (shapes : Catalogue) (strict : Bool) (root : ℕ) where
  abbrev Met : Target → Type 0
  Met t = IsMet (rules_of shapes strict) (of_shape root) t

  -- the root is met
  pub root_met : ShapeIsMet shapes strict root root
  root_met = (0, refl)

  met_next : (u t : Target) → Met u → MeetsNext (rules_of shapes strict) u t → Met t
  met_next u t m leads = (suc m.0, (u, m.1, leads))

  -- what is asked, what is within, and what is a variant's
  met_asked : (u t : Target) (k : ℕ) → Met u → slice_get (asked (rules_of shapes strict) u) k ≡ Some t → Met t
  met_asked u t k m at =
      met_next u t m (inl (inl (any_at (λ v. v ≡ t) (asked (rules_of shapes strict) u) k t at refl)))

  met_within : (u t : Target) (k : ℕ) → Met u → slice_get (within (rules_of shapes strict) u) k ≡ Some t → Met t
  met_within u t k m at =
      met_next u t m (inl (inr (inl (any_at (λ v. v ≡ t) (within (rules_of shapes strict) u) k t at refl))))

  met_variant : (u t : Target) (k : ℕ) → Met u → slice_get (variants_of (rules_of shapes strict) u) k ≡ Some t → Met t
  met_variant u t k m at =
      met_next u t m (inr (any_at (λ v. v ≡ t) (variants_of (rules_of shapes strict) u) k t at refl))

  -- the list by which an object is read
  list_met : (u : Target) (id : ListId) → Met u → list_of (rules_of shapes strict) u ≡ Some id
      → IfChosen shapes strict root id
  list_met u id m is chosen = record {
    from = u;
    from_met = m;
    list = id;
    list_is = is;
    chosen = chosen;
    steps = 0;
    through = refl;
  }

  -- what content leads to
  content_met : (s k : ℕ) → Met (of_content s k) → (c : Content) → content_at shapes s k ≡ c
      → ContentIsMet shapes strict root c
  content_met s k m no_content e = tt
  content_met s k m (as_shape id) e =
      met_asked (of_content s k) (of_shape id) 0 m (ap (λ c. slice_get (asked_by_content c) 0) e)
  content_met s k m (as_tuple ids) e = λ i d less.
      met_within (of_content s k) (of_shape (get_or ids i d)) i m
      (ap (λ c. slice_get (within_content c) i) e ∙ slice_get-map of_shape ids i ∙ ap (option_map of_shape) (slice_get-get_or ids i d less))
  content_met s k m (as_object id) e =
      list_met (of_content s k) id m (ap list_of_content e)

  -- what a target leads to
  target_met : (t : Target) → Met t → TargetIsMet shapes strict root t
  target_met (of_shape id) m = m
  target_met (of_content s k) m = content_met s k m (content_at shapes s k) refl
  target_met (of_tag name) m = tt

  -- what an end leads to
  pub end_met : (id : ℕ) → ShapeIsMet shapes strict root id → (e : End) → end_of shapes id ≡ e
      → EndIsMet shapes strict root e
  end_met id m (an_option s) e =
      met_asked (of_shape id) (of_shape s) 0 m (ap (λ x. slice_get (asked_by_end x) 0) e)
  end_met id m (a_list s) e =
      met_within (of_shape id) (of_shape s) 0 m (ap (λ x. slice_get (within_end x) 0) e)
  end_met id m (a_map key value) e =
      met_within (of_shape id) (of_shape value) 0 m (ap (λ x. slice_get (within_end x) 0) e)
  end_met id m (a_tuple ids) e = λ i d less.
      met_within (of_shape id) (of_shape (get_or ids i d)) i m
      (ap (λ x. slice_get (within_end x) i) e ∙ slice_get-map of_shape ids i ∙ ap (option_map of_shape) (slice_get-get_or ids i d less))
  end_met id m (an_object l) e = list_met (of_shape id) l m (ap list_of_end e)
  end_met id m (a_named_variant vs) e = λ i d less.
      let content = λ (v : NamedVariant). v.content in
      target_met (get_or vs i d).content
      (met_within (of_shape id) (get_or vs i d).content i m
      (ap (λ x. slice_get (within_end x) i) e ∙ slice_get-map content vs i ∙ ap (option_map content) (slice_get-get_or vs i d less)))
  end_met id m (an_untagged_variant joined alone) e = (
    list_met (of_shape id) joined m (ap list_of_end e),
    λ i d less.
        let content = λ (a : Alternative). a.content in
        target_met (get_or alone i d).content
        (met_variant (of_shape id) (get_or alone i d).content i m
        (ap (λ x. slice_get (variants_of_end x) i) e ∙ slice_get-map content alone i ∙ ap (option_map content) (slice_get-get_or alone i d less))),
  )
  end_met id m _ e = tt

  -- what a part of a list leads to
  module _ (id : ListId) (l : ListIsMet shapes strict root id) (ps : List Part) (same : parts_of shapes id ≡ Some ps) where
    chosen : IsChosen shapes id
    chosen = chosen_last shapes l.steps l.list id l.through l.chosen

    -- what some choice reads a value as
    read_met : (t : Target) (k : ℕ) (p : Part) → slice_get ps k ≡ Some p
        → Offers (ChoosesAt (parts_of shapes) p) (λ i. Any (λ u. u ≡ t) (read_by_item i)) → Met t
    read_met t k p at o =
        let reads = λ (i : Item). Any (λ u. u ≡ t) (read_by_item i) in
        let here =
        offers_list (parts_of shapes) reads id ps same
        (offers_all (parts_of shapes) reads ps k p ((choice_of_list (parts_of shapes) id ps same).1 chosen) at o) in
        let there = offers_through shapes reads l.steps l.list id l.through l.chosen here in
        met_next l.from t l.from_met
        (inl (inr (inr (record {
          id = l.list;
          list_is = l.list_is;
          reads = record { choice = there.choice; items = there.items; chooses = there.chooses; reads = there.has };
        }))))

    part_met : (k : ℕ) (p : Part) → slice_get ps k ≡ Some p → PartIsMet shapes strict root p
    part_met k (a_member m) at =
        let t = m.target in
        target_met t
        (read_met t k (a_member m) at (record {
          choice = lacking;
          items = member_of m None ∷ [];
          chooses = refl;
          has = any_at (λ i. Any (λ u. u ≡ t) (read_by_item i)) (member_of m None ∷ []) 0 (member_of m None) refl
              (any_at (λ u. u ≡ t) (t ∷ []) 0 t refl refl);
        }))
    part_met k (a_selection s) at = λ i d less is_chosen. record {
      from = l.from;
      from_met = l.from_met;
      list = l.list;
      list_is = l.list_is;
      chosen = l.chosen;
      steps = suc l.steps;
      through = comes_on shapes l.steps l.list id (get_or s.branches i d) l.through (record {
        parts = ps;
        parts_are = same;
        is_branch = any_at (IsBranchOf (get_or s.branches i d)) ps k (a_selection s) at
            (any_at (λ b. b ≡ get_or s.branches i d) s.branches i (get_or s.branches i d) (slice_get-get_or s.branches i d less) refl);
        chosen = is_chosen;
      });
    }
    part_met k (a_catch_all (of_map key value)) at =
        let c = of_map key value in
        let t = of_shape value in
        read_met t k (a_catch_all c) at (record {
          choice = taking none_left;
          items = catch_all_of c none_left ∷ [];
          chooses = refl;
          has = any_at (λ i. Any (λ u. u ≡ t) (read_by_item i)) (catch_all_of c none_left ∷ []) 0 (catch_all_of c none_left) refl
              (any_at (λ u. u ≡ t) (t ∷ []) 0 t refl refl);
        })
    part_met k (a_catch_all of_anything) at = tt

    pub parts_met : All (PartIsMet shapes strict root) ps
    parts_met = all_from (PartIsMet shapes strict root) ps part_met
