-- Names that choices of parts require.
use Rattle.std.proofs.Common.{◌≡◌, ◌∙◌, sym, ap, subst, refl, inl, inr, ⊎_elim, ◌⊎◌, ℕ, zero, suc}
use Rattle.std.proofs.Common.{◌<◌, List, [], ◌∷◌, ◌++◌, Option, Some, None, Bool, true, false}
use Rattle.std.proofs.Common.{slice_get, get_or, length, length-append, arith, ◌+◌, ◌||◌, Bor, Vec}
use Rattle.std.proofs.Common.{Global}
use Rattle.std.specs.List.{list_any, list_all}
use Rattle.std.specs.Option.{option_map_or}
use Rattle.std.specs.Str.{bytes_eq}
use Rattle.std.proofs.lemmas.Option.{slice_get-get_or}
use Rattle.std.proofs.lemmas.Slice.Eq.{bytes_eq-Decides}
use Rattle.facet_solver_shape.specs.Names.{Name}
use Rattle.facet_solver_reader.specs.declared.plan.Plan.{Plan}
use Rattle.facet_solver_reader.specs.declared.plan.PlannedList.{PlannedList}
use Rattle.facet_solver_reader.specs.declared.plan.PlannedPart.{PlannedPart}
use Rattle.facet_solver_reader.specs.declared.plan.PlannedPart.TheVariants as planned
use Rattle.facet_solver_reader.specs.declared.plan.PlannedSelection.{PlannedSelection}
use Rattle.facet_solver_reader.specs.Choices.{Choice, ChoiceAt, ChoosesParts, done, next, lacking}
use Rattle.facet_solver_reader.specs.Choices.{having, without, choosing, taking, Item, member_of}
use Rattle.facet_solver_reader.specs.Choices.{catch_all_of, presence_of, presence}
use Rattle.facet_solver_reader.specs.Known.{Chooses, ChoosesAll, ChoosesAt, HasChoice}
use Rattle.facet_solver_reader.specs.Parts.{ListId, Lists, MemberPart, CatchAll, Part, a_member}
use Rattle.facet_solver_reader.specs.Parts.{a_selection, a_catch_all, Selection}
use Rattle.facet_solver_reader.specs.Plans.{IsNumberOfList, IsPlannedList, IsPlannedPart}
use Rattle.facet_solver_reader.specs.Plans.{IsPlannedSelection, Meaning}
use Rattle.facet_solver_reader.proofs.Pairs.{pair_at}
use Rattle.facet_solver_checker.specs.PlanMembers.{AreListsOf, IsIn}
use Rattle.facet_solver_checker.specs.Requires.{AreRequired, HasRequired, NameLists, Requires}
use Rattle.facet_solver_checker.specs.Requires.{all_require, requires_at}
use Rattle.facet_solver_checker.proofs.ListItems.{number_of_branch, planned_at}
use Rattle.facet_solver_checker.proofs.WaysApart.{each_passes}

module _ (x : Name) where
  -- what one of two lists of items requires, both do
  pub required_left : (is js : List Item) → HasRequired is x → HasRequired (is ++ js) x
  required_left [] js h = absurd h
  required_left (member_of part r ∷ is) js h =
      ⊎_elim (λ (e : (part.name ≡ x) × (part.required ≡ true)). inl e)
      (λ (k : HasRequired is x). inr (required_left is js k)) h
  required_left (catch_all_of k t ∷ is) js h = required_left is js h
  required_left (presence_of s ∷ is) js h = required_left is js h

  pub required_right : (is js : List Item) → HasRequired js x → HasRequired (is ++ js) x
  required_right [] js h = h
  required_right (member_of part r ∷ is) js h = inr (required_right is js h)
  required_right (catch_all_of k t ∷ is) js h = required_right is js h
  required_right (presence_of s ∷ is) js h = required_right is js h

  module _ (lists : Lists) where
    -- what a part requires, the parts do
    pub parts_require : (ps : List Part) (i : ℕ) (p : Part) → slice_get ps i ≡ Some p
        → Requires (ChoosesAt lists p) x → Requires (ChoosesAll lists ps) x
    parts_require [] i p at h c items chooses = absurd (cc)
    parts_require (q ∷ ps) i p at h done items chooses = absurd chooses
    parts_require (q ∷ ps) zero p at h (next a c) items chooses =
        let same : q ≡ p = cc in
        subst (λ (is : List Item). HasRequired is x) (sym chooses.items_are)
        (required_left chooses.first chooses.second
        (h a chooses.first
        (subst (λ (r : Part). ChoosesAt lists r a chooses.first) same chooses.chooses_first)))
    parts_require (q ∷ ps) (suc i) p at h (next a c) items chooses =
        subst (λ (is : List Item). HasRequired is x) (sym chooses.items_are)
        (required_right chooses.first chooses.second
        (parts_require ps i p at h c chooses.second chooses.chooses_second))

    -- and so does the list of the parts
    pub list_requires : (id : ListId) (ps : List Part) → lists id ≡ Some ps
        → Requires (ChoosesAll lists ps) x → Requires (Chooses lists id) x
    list_requires id ps e h c items chooses =
        let both : Some chooses.parts ≡ Some ps = sym chooses.parts_are ∙ e in
        let same : chooses.parts ≡ ps = cc in
        h c items
        (subst (λ (qs : List Part). ChoosesParts lists c qs items) same chooses.chooses)

    -- a member that is required
    pub member_requires : (part : MemberPart) → part.name ≡ x → part.required ≡ true
        → Requires (ChoosesAt lists (a_member part)) x
    member_requires part name required lacking items h =
        subst (λ (is : List Item). HasRequired is x) (sym h) (inl (name, required))
    member_requires part name required (having r) items h =
        subst (λ (is : List Item). HasRequired is x) (sym h) (inl (name, required))
    member_requires part name required without items h = absurd h
    member_requires part name required (choosing k c) items h = absurd h
    member_requires part name required (taking t) items h = absurd h

-- a name that a test finds stands in the list
pub found_name : (x : Name) (names : List (Bor Name))
    → list_any (λ y. bytes_eq y.now x) names ≡ true
    → (y : Bor Name) × (y.now ≡ x) × IsIn y names
found_name x [] e = absurd (cc)
found_name x (y ∷ names) e = go (bytes_eq y.now x) refl (found_name x names) e
  where
    go : (b : Bool) → bytes_eq y.now x ≡ b
        → (list_any (λ z. bytes_eq z.now x) names ≡ true
        → (z : Bor Name) × (z.now ≡ x) × IsIn z names)
        → (b || list_any (λ z. bytes_eq z.now x) names) ≡ true
        → (z : Bor Name) × (z.now ≡ x) × IsIn z (y ∷ names)
    go true is later e = (y, (bytes_eq-Decides y.now x).0 is, (zero, refl))
    go false is later e =
        let r = later e in (r.0, r.1, (suc r.2.0, r.2.1))

module _ (m : Meaning) (table : NameLists) (are : AreRequired m table) where
  -- what stands at a number is required by the list of the number
  pub required_at : (x : Name) (n : ℕ) (id : ListId) → requires_at table x n ≡ true
      → IsNumberOfList m id n → Requires (Chooses m.rules.lists id) x
  required_at x n id e number = go (slice_get table n) refl e
    where
      go : (o : Option (Vec (Bor Name) Global)) → slice_get table n ≡ o
          → option_map_or (λ names. list_any (λ y. bytes_eq y.now x) names.items) o false ≡ true
          → Requires (Chooses m.rules.lists id) x
      go None at e = absurd (cc)
      go (Some names) at e =
          let y = found_name x names.items e in
          subst (λ (z : Name). Requires (Chooses m.rules.lists id) z) y.1
          (are n names id y.0 at number y.2)

  -- what all branches of a selection that is always present require, it does
  pub selection_requires : (x : Name) (s : Selection) (p : PlannedSelection)
      → IsPlannedSelection m s p → p.optional ≡ false → all_require table x p.branches.items ≡ true
      → Requires (ChoosesAt m.rules.lists (a_selection s)) x
  selection_requires x s p is optional all lacking items h = absurd h
  selection_requires x s p is optional all (having r) items h = absurd h
  selection_requires x s p is optional all (taking t) items h = absurd h
  selection_requires x s p is optional all without items h =
      let yes : s.optional ≡ true = h.0 in
      let no : s.optional ≡ false = sym is.optional ∙ optional in absurd (cc)
  selection_requires x s p is optional all (choosing k c) items h =
      let b = h.chooses in
      let number = number_of_branch m s.branches p.branches.items is.branches k b.list b.branch_is
      (record { choice = c; items = h.of_branch; chooses = b.chooses }) in
      let here = each_passes (requires_at table x) number.0 p.branches.items all number.2 in
      subst (λ (is : List Item). HasRequired is x) (sym h.items_are)
      (required_right x (presence s) h.of_branch
      (required_at x number.0 b.list here number.1 c h.of_branch b.chooses))

-- a part that is a selection requires what all its branches require
pub part_requires : (m : Meaning) (table : NameLists) (p : Part) (q : PlannedSelection) (x : Name)
    → AreRequired m table → IsPlannedPart m p (planned.Selection q) → q.optional ≡ false
    → all_require table x q.branches.items ≡ true → Requires (ChoosesAt m.rules.lists p) x
part_requires m table (a_member part) q x are is optional all = absurd is
part_requires m table (a_selection s) q x are is optional all =
    selection_requires m table are x s q is optional all
part_requires m table (a_catch_all k) q x are is optional all = absurd is

-- what stands in a list with one more at its end stands in the list, or it is the last
last_or_before : {X : Type 0} (xs : List X) (y x : X) (n : ℕ) → slice_get (xs ++ y ∷ []) n ≡ Some x
    → (slice_get xs n ≡ Some x) ⊎ ((n ≡ length xs) × (y ≡ x))
last_or_before [] y x zero e = let same : y ≡ x = cc in inr (refl, same)
last_or_before [] y x (suc n) e = absurd (cc)
last_or_before (z ∷ xs) y x zero e = inl e
last_or_before {X} (z ∷ xs) y x (suc n) e =
    ⊎_elim (λ (h : slice_get xs n ≡ Some x). inl h)
    (λ (h : (n ≡ length xs) × (y ≡ x)). inr (ap suc h.0, h.1)) (last_or_before xs y x n e)

-- names of one list more
pub required_more : (m : Meaning) (p : Plan) (lists : List PlannedList) (i : ℕ) (l : PlannedList)
    (old new : NameLists) (last : Vec (Bor Name) Global) → AreListsOf m p
    → lists ≡ p.lists.items → i < length lists → l ≡ get_or lists i l → length old ≡ i
    → new ≡ old ++ last ∷ [] → AreRequired m old
    → ((id : ListId) (x : Bor Name) → IsPlannedList m id l → IsIn x last.items
    → Requires (Chooses m.rules.lists id) x.now)
    → AreRequired m new
required_more m p lists i l old new last is same within at count grown before added n names id x
    there number in' =
    ⊎_elim (λ (h : slice_get old n ≡ Some names). before n names id x h number in')
    (λ (h : (n ≡ length old) × (last ≡ names)).
    let here : slice_get p.lists.items i ≡ Some l =
    ap (λ (ls : List PlannedList). slice_get ls i) (sym same)
    ∙ slice_get-get_or lists i l within ∙ ap Some (sym at) in
    let index : n ≡ i = h.0 ∙ count in
    added id x (planned_at m p is id i l (subst (λ (k : ℕ). IsNumberOfList m id k) index number)
    here)
    (subst (λ (v : Vec (Bor Name) Global). IsIn x v.items) (sym h.1) in'))
    (last_or_before old last names n
    (ap (λ (t : NameLists). slice_get t n) (sym grown) ∙ there))

-- a name is of those before, which the list requires, or the part at an index requires it
pub part_or_before : (m : Meaning) (id : ListId) (list : PlannedList) (parts : List PlannedPart)
    (i : ℕ) (q : PlannedPart) (x : Name) (IsBefore : Type 0) → IsPlannedList m id list
    → parts ≡ list.parts.items → i < length parts → q ≡ get_or parts i q
    → (IsBefore → Requires (Chooses m.rules.lists id) x)
    → ((p : Part) → IsPlannedPart m p q → IsBefore ⊎ Requires (ChoosesAt m.rules.lists p) x)
    → Requires (Chooses m.rules.lists id) x
part_or_before m id list parts i q x IsBefore is same within at before added =
    let there : slice_get list.parts.items i ≡ Some q =
    ap (λ (ps : List PlannedPart). slice_get ps i) (sym same)
    ∙ slice_get-get_or parts i q within ∙ ap Some (sym at) in
    let pair = pair_at (IsPlannedPart m) is.parts list.parts.items i q is.each there in
    ⊎_elim before
    (λ (h : Requires (ChoosesAt m.rules.lists pair.0) x).
    list_requires x m.rules.lists id is.parts is.parts_are
    (parts_require x m.rules.lists is.parts i pair.0 pair.1 h))
    (added pair.0 pair.2)

-- a list that was pushed to is longer by one
pub one_longer : {X : Type 0} (old : List X) (x : X) (new : List X) (i : ℕ) → new ≡ old ++ x ∷ []
    → length old ≡ i → length new ≡ i + 1
one_longer old x new i grown count =
    let long : length new ≡ length old + 1 = ap length grown ∙ length-append old (x ∷ []) in
    omega (arith, long, count)
