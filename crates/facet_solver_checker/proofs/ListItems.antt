-- Each item of a choice of a list has its part in a list below it.
use Rattle.std.proofs.Common.{◌≡◌, ◌∙◌, sym, ap, subst, refl, ℕ, zero, suc, ◌+◌, ◌<◌, List, [], ◌∷◌}
use Rattle.std.proofs.Common.{◌++◌, Option, Some, None, Bool, true, false, slice_get, All, IsTrue}
use Rattle.std.proofs.Common.{if◌then◌else◌, length}
use Rattle.facet_solver_reader.specs.declared.plan.Plan.{Plan}
use Rattle.facet_solver_reader.specs.declared.plan.PlannedList.{PlannedList}
use Rattle.facet_solver_reader.specs.declared.plan.PlannedPart.{PlannedPart}
use Rattle.facet_solver_reader.specs.declared.plan.PlannedPart.TheVariants as planned
use Rattle.facet_solver_reader.specs.declared.plan.PlannedSelection.{PlannedSelection}
use Rattle.facet_solver_reader.specs.Choices.{Choice, ChoiceAt, ChoosesPart, ChoosesParts, done}
use Rattle.facet_solver_reader.specs.Choices.{next, lacking, having, without, choosing, taking}
use Rattle.facet_solver_reader.specs.Choices.{Item, member_of, catch_all_of, presence_of, presence}
use Rattle.facet_solver_reader.specs.Choices.{Reading}
use Rattle.facet_solver_reader.specs.Known.{Chooses, HasChoice}
use Rattle.facet_solver_reader.specs.Parts.{ListId, MemberPart, CatchAll, Part, a_member}
use Rattle.facet_solver_reader.specs.Parts.{a_selection, a_catch_all, Selection}
use Rattle.facet_solver_reader.specs.Plans.{AreBelow, AreBranchesBefore, AreInPairs, AreThoseChosen}
use Rattle.facet_solver_reader.specs.Plans.{none_left, chosen, passed, IsNumberOfList}
use Rattle.facet_solver_reader.specs.Plans.{IsPlannedList, IsPlannedPart, Meaning}
use Rattle.facet_solver_reader.proofs.Pairs.{pair_of}
use Rattle.facet_solver_reader.proofs.Quantifiers.{all_at}
use Rattle.facet_solver_checker.specs.PlanMembers.{AreClosed, AreListsOf, HasPart, HaveParts, IsIn}
use Rattle.facet_solver_checker.specs.PlanMembers.{IsMeaningOf, IsPartOf}
use Rattle.facet_solver_checker.proofs.Among.{in_tail}

-- a branch that has a choice has its number among those of a selection
pub number_of_branch : (m : Meaning) (ids : List ListId) (ns : List ℕ) → AreThoseChosen m ids ns
    → (k : ℕ) (id : ListId) → slice_get ids k ≡ Some id → HasChoice (Chooses m.rules.lists id)
    → (b : ℕ) × IsNumberOfList m id b × IsIn b ns
number_of_branch m xs ys none_left k id e h = absurd (cc)
number_of_branch m xs ys (chosen id ids n ns is those) zero other e h =
    let same : id ≡ other = cc in (n, subst (λ i. IsNumberOfList m i n) same is, (0, refl))
number_of_branch m xs ys (chosen id ids n ns is those) (suc k) other e h =
    let r = number_of_branch m ids ns those k other e h in (r.0, r.1, in_tail r.0 n ns r.2)
number_of_branch m xs ys (passed id ids ns none those) zero other e h =
    let same : id ≡ other = cc in
    absurd (none (subst (λ i. HasChoice (Chooses m.rules.lists i)) (sym same) h))
number_of_branch m xs ys (passed id ids ns none those) (suc k) other e h =
    number_of_branch m ids ns those k other e h

module _ (m : Meaning) (lists : List PlannedList) (below : List ℕ) where
  -- items of two have their parts where those of each have them
  pub have_both : (is js : List Item) → HaveParts m lists below is → HaveParts m lists below js
      → HaveParts m lists below (is ++ js)
  have_both [] js h k = k
  have_both (member_of part r ∷ is) js h k = (h.0, have_both is js h.1 k)
  have_both (catch_all_of c t ∷ is) js h k = (h.0, have_both is js h.1 k)
  have_both (presence_of s ∷ is) js h k = have_both is js h k

  -- a presence asks for none
  have_presence : (s : Selection) (items : List Item) → HaveParts m lists below items
      → HaveParts m lists below (presence s ++ items)
  have_presence s items h = go s.optional
    where
      go : (b : Bool)
          → HaveParts m lists below ((if b then presence_of s ∷ [] else []) ++ items)
      go true = h
      go false = h

  -- the list of a number, in pairs with the parts that it is of
  abbrev pub ListThere : ℕ → List Part → Type 0
  ListThere n ps =
      (l : PlannedList) × (slice_get lists n ≡ Some l)
      × AreInPairs (IsPlannedPart m) ps l.parts.items

  -- it is there
  pub list_there : AreInPairs (IsPlannedList m) m.lists lists → (n : ℕ) (id : ListId)
      (ps : List Part) → IsNumberOfList m id n → m.rules.lists id ≡ Some ps → ListThere n ps
  list_there each n id ps is e =
      let l = pair_of (IsPlannedList m) m.lists lists n id each is in
      let both : Some l.2.parts ≡ Some ps = sym l.2.parts_are ∙ e in
      let same : l.2.parts ≡ ps = cc in
      (l.0, l.1, subst (λ qs. AreInPairs (IsPlannedPart m) qs l.0.parts.items) same l.2.each)

  module _ (each : AreInPairs (IsPlannedList m) m.lists lists)
      (closed : AreClosed lists below) where
    -- the parts of a list of such a number
    abbrev AreOf : ℕ → List PlannedPart → Type 0
    AreOf n qs =
        (l : PlannedList) × (slice_get lists n ≡ Some l)
        × ((q : PlannedPart) → IsIn q qs → IsIn q l.parts.items)

    mutual
      -- the items of a choice of parts
      of_parts : (c : Choice) (ps : List Part) (items : List Item) (n : ℕ)
          (qs : List PlannedPart) → IsIn n below → AreOf n qs
          → AreInPairs (IsPlannedPart m) ps qs → ChoosesParts m.rules.lists c ps items
          → HaveParts m lists below items
      of_parts done [] items n qs in' of are h =
          subst (HaveParts m lists below) (sym h) tt
      of_parts done (p ∷ ps) items n qs in' of are h = absurd h
      of_parts (next a c) [] items n qs in' of are h = absurd h
      of_parts (next a c) (p ∷ ps) items n [] in' of are h = absurd are
      of_parts (next a c) (p ∷ ps) items n (q ∷ qs) in' of are h =
          subst (HaveParts m lists below) (sym h.items_are)
          (have_both h.first h.second
          (of_part a p h.first n q in' (of.0, of.1, of.2 q (0, refl)) are.0 h.chooses_first)
          (of_parts c ps h.second n qs in'
          (of.0, of.1, λ r i. of.2 r (in_tail r q qs i)) are.1 h.chooses_second))

      -- those of a choice at a part
      of_part : (a : ChoiceAt) (p : Part) (items : List Item) (n : ℕ) (q : PlannedPart)
          → IsIn n below
          → (l : PlannedList) × (slice_get lists n ≡ Some l) × IsIn q l.parts.items
          → IsPlannedPart m p q → ChoosesPart m.rules.lists a p items
          → HaveParts m lists below items
      of_part lacking (a_member part) items n (planned.Member p) in' of is h =
          subst (HaveParts m lists below) (sym h) (
            record {
              number = n;
              among = in';
              list = of.0;
              is_list = of.1;
              part = planned.Member p;
              is_part = of.2;
              is = is;
            },
            tt,
          )
      of_part (having r) (a_member part) items n (planned.Member p) in' of is h =
          subst (HaveParts m lists below) (sym h) (
            record {
              number = n;
              among = in';
              list = of.0;
              is_list = of.1;
              part = planned.Member p;
              is_part = of.2;
              is = is;
            },
            tt,
          )
      of_part (taking t) (a_catch_all k) items n (planned.CatchAll p) in' of is h =
          subst (HaveParts m lists below) (sym h) (
            record {
              number = n;
              among = in';
              list = of.0;
              is_list = of.1;
              part = planned.CatchAll p;
              is_part = of.2;
              is = is;
            },
            tt,
          )
      of_part without (a_selection s) items n (planned.Selection p) in' of is h =
          subst (HaveParts m lists below) (sym h.1) tt
      of_part (choosing k c) (a_selection s) items n (planned.Selection p) in' of is h =
          let b = h.chooses in
          let number = number_of_branch m s.branches p.branches.items is.branches k b.list
          b.branch_is (record { choice = c; items = h.of_branch; chooses = b.chooses }) in
          let l = list_there each number.0 b.list b.chooses.parts number.1 b.chooses.parts_are in
          subst (HaveParts m lists below) (sym h.items_are)
          (have_presence s h.of_branch
          (of_parts c b.chooses.parts h.of_branch number.0 l.0.parts.items
          (closed n of.0 p number.0 in' of.1 of.2 number.2)
          (l.0, l.1, λ q i. i) l.2 b.chooses.chooses))
      of_part lacking (a_member part) items n (planned.Selection p) in' of is h = absurd is
      of_part lacking (a_member part) items n (planned.CatchAll p) in' of is h = absurd is
      of_part (having r) (a_member part) items n (planned.Selection p) in' of is h = absurd is
      of_part (having r) (a_member part) items n (planned.CatchAll p) in' of is h = absurd is
      of_part without (a_member part) items n q in' of is h = absurd h
      of_part (choosing k c) (a_member part) items n q in' of is h = absurd h
      of_part (taking t) (a_member part) items n q in' of is h = absurd h
      of_part lacking (a_selection s) items n q in' of is h = absurd h
      of_part (having r) (a_selection s) items n q in' of is h = absurd h
      of_part (taking t) (a_selection s) items n q in' of is h = absurd h
      of_part without (a_selection s) items n (planned.Member p) in' of is h = absurd is
      of_part without (a_selection s) items n (planned.CatchAll p) in' of is h = absurd is
      of_part (choosing k c) (a_selection s) items n (planned.Member p) in' of is h = absurd is
      of_part (choosing k c) (a_selection s) items n (planned.CatchAll p) in' of is h = absurd is
      of_part lacking (a_catch_all k) items n q in' of is h = absurd h
      of_part (having r) (a_catch_all k) items n q in' of is h = absurd h
      of_part without (a_catch_all k) items n q in' of is h = absurd h
      of_part (choosing j c) (a_catch_all k) items n q in' of is h = absurd h
      of_part (taking t) (a_catch_all k) items n (planned.Member p) in' of is h = absurd is
      of_part (taking t) (a_catch_all k) items n (planned.Selection p) in' of is h = absurd is

    -- the items of a choice of a list
    pub items_have : (n : ℕ) (id : ListId) (c : Choice) (items : List Item) → IsIn n below
        → IsNumberOfList m id n → Chooses m.rules.lists id c items
        → HaveParts m lists below items
    items_have n id c items in' is h =
        let l = list_there each n id h.parts is h.parts_are in
        of_parts c h.parts items n l.0.parts.items in' (l.0, l.1, λ q i. i) l.2 h.chooses

-- numbers below a list are closed, and its own is one of them
module _ (p : Plan) (index : ℕ) (below : List ℕ) (are : AreBelow p index below) where
  pub below_closed : AreClosed p.lists.items below
  below_closed n l s b in' at part branch =
      let here = are.branches in'.0 n in'.1 in
      let both : Some here.0 ≡ Some l = sym here.1 ∙ at in
      let same : here.0 ≡ l = cc in
      let before = all_at (AreBranchesBefore below in'.0) l.parts.items part.0 (planned.Selection s)
      (subst (λ (x : PlannedList). All (AreBranchesBefore below in'.0) x.parts.items) same here.2)
      part.1 in
      let found = all_at (λ (k : ℕ). (q : ℕ) × (q < in'.0) × (slice_get below q ≡ Some k))
      s.branches.items branch.0 b before branch.1 in
      (found.0, found.2)

  pub own_below : IsIn index below
  own_below = (are.last.0, are.last.2)

-- the list of a number is as it is planned
module _ (m : Meaning) (p : Plan) (is : AreListsOf m p) (id : ListId) (n : ℕ) (l : PlannedList)
    (number : IsNumberOfList m id n) (at : slice_get p.lists.items n ≡ Some l) where
  pub planned_at : IsPlannedList m id l
  planned_at =
      let x = pair_of (IsPlannedList m) m.lists p.lists.items n id is.each number in
      let both : Some x.0 ≡ Some l = sym x.1 ∙ at in
      let same : x.0 ≡ l = cc in subst (IsPlannedList m id) same x.2

  -- the items of its choices have their parts below it
  pub have_below : (c : Choice) (items : List Item) → Chooses m.rules.lists id c items
      → HaveParts m p.lists.items l.below.items items
  have_below c items h =
      items_have m p.lists.items l.below.items is.each
      (below_closed p n l.below.items (is.below n l at)) n id c items
      (own_below p n l.below.items (is.below n l at)) number h
