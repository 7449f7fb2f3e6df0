-- Where two readings of one object by one list differ, two branches of a selection read one object,
-- or two values do.
use Rattle.std.proofs.Common.{◌≡◌, ap, sym, ◌∙◌, subst, ℕ, zero, suc, ◌+◌, arith, List, [], ◌∷◌}
use Rattle.std.proofs.Common.{Option, Some, None}
use Rattle.std.proofs.Common.{slice_get, refl}
use Rattle.facet_solver_reader.specs.declared.plan.Plan.{Plan}
use Rattle.facet_solver_reader.specs.declared.plan.PlannedCatchAll.TheVariants as caught
use Rattle.facet_solver_reader.specs.declared.plan.PlannedList.{PlannedList}
use Rattle.facet_solver_reader.specs.declared.plan.PlannedPart.{PlannedPart}
use Rattle.facet_solver_reader.specs.declared.plan.PlannedPart.TheVariants as parts
use Rattle.facet_solver_reader.specs.declared.plan.PlannedSelection.{PlannedSelection}
use Rattle.facet_solver_reader.specs.Branches.{ReadsList, ReadsPart, ReadsParts}
use Rattle.facet_solver_reader.specs.Choices.{Choice, ChoiceAt, Reading, Taken}
use Rattle.facet_solver_reader.specs.Choices.{having}
use Rattle.facet_solver_reader.specs.Choices.{next, taking}
use Rattle.facet_solver_checker.specs.Differing.{Differ, DifferAt, DifferPart, DifferTaken}
use Rattle.facet_solver_checker.specs.Differing.{Difference, behind_passed, behind_taken}
use Rattle.facet_solver_checker.specs.Differing.{by_branches}
use Rattle.facet_solver_checker.specs.Differing.{first_part, first_taken, in_branch, in_member}
use Rattle.facet_solver_checker.specs.Differing.{in_taken, later_part}
use Rattle.facet_solver_reader.specs.Documents.{Member, Tree}
use Rattle.facet_solver_reader.specs.Known.{Chooses, ChoosesAll, HasChoice, IsDistinct}
use Rattle.facet_solver_reader.specs.Objects.{Agrees, Object, Reads, ReadsMember, Takes, TakesRest}
use Rattle.facet_solver_reader.specs.Objects.{find}
use Rattle.facet_solver_reader.specs.Parts.{CatchAll, ListId, MemberPart, Part, Selection, Target}
use Rattle.facet_solver_reader.specs.Parts.{a_catch_all, a_member, a_selection, of_anything, of_map}
use Rattle.facet_solver_reader.specs.Parts.{of_shape}
use Rattle.facet_solver_reader.specs.Plans.{AreInPairs, IsNumberOf, IsNumberOfList}
use Rattle.facet_solver_reader.specs.Plans.{IsPlannedList, IsPlannedPart, IsPlannedSelection}
use Rattle.facet_solver_reader.specs.Plans.{Meaning}
use Rattle.facet_solver_checker.specs.Differing.{at_part, behind, into_branch, into_member}
use Rattle.facet_solver_checker.specs.Differing.{into_taken}
use Rattle.facet_solver_checker.specs.Leading.{LeadsOn, Spot, by_branch, by_member, by_part}
use Rattle.facet_solver_checker.specs.Leading.{by_rest}
use Rattle.facet_solver_checker.specs.Leading.{is_part, part_of}
use Rattle.facet_solver_checker.specs.Atoms.{IsPlanFor}
use Rattle.facet_solver_checker.specs.Comes.{MustTouchList}
use Rattle.facet_solver_checker.specs.Forks.{IsSelectionAt}
use Rattle.facet_solver_reader.specs.Values.{ReadsDown}
use Rattle.facet_solver_checker.proofs.BothReadings.{IsNumbered}
use Rattle.facet_solver_reader.proofs.Distinct.{AreDistinct, distinct_parts}
use Rattle.facet_solver_reader.proofs.Lists.{readings_of_list}
use Rattle.facet_solver_reader.proofs.Products.{readings_join}
use Rattle.facet_solver_reader.proofs.Selections.{list_reads}
use Rattle.facet_solver_reader.proofs.Pairs.{pair_of}
use Rattle.facet_solver_checker.proofs.ListItems.{number_of_branch}
use Rattle.facet_solver_checker.proofs.SelfDifferent.{not_same}
use Rattle.facet_solver_checker.proofs.Sites.{SiteAt, SiteFrom, SiteIn}
use Rattle.facet_solver_checker.proofs.TouchedLists.{touches_below}

-- what is there is one thing
some_is : {A : Type 0} {x y : A} → Some x ≡ Some y → x ≡ y
some_is p = cc

-- a planned selection is one
planned_selection : (m : Meaning) (s : Selection) (p : PlannedPart)
    → IsPlannedPart m (a_selection s) p
    → (q : PlannedSelection) × (p ≡ parts.Selection q) × IsPlannedSelection m s q
planned_selection m s (parts.Selection q) h = (q, refl, h)
planned_selection m s (parts.Member q) h = absurd h
planned_selection m s (parts.CatchAll q) h = absurd h

-- what a planned part says of the targets and branches that it names
pub selection_number : (m : Meaning) (s : Selection) (p : PlannedPart)
    → IsPlannedPart m (a_selection s) p → (k : ℕ) (id : ListId) → slice_get s.branches k ≡ Some id
    → HasChoice (Chooses m.rules.lists id) → (n : ℕ) × IsNumberOfList m id n
selection_number m s (parts.Selection p) h k id at some =
    let r = number_of_branch m s.branches p.branches.items h.branches k id at some in (r.0, r.1)
selection_number m s (parts.Member p) h k id at some = absurd h
selection_number m s (parts.CatchAll p) h k id at some = absurd h

pub member_number : (m : Meaning) (part : MemberPart) (p : PlannedPart)
    → IsPlannedPart m (a_member part) p → IsNumbered m part.target
member_number m part (parts.Member p) h = (p.target, h.target)
member_number m part p h = absurd h

pub caught_number : (m : Meaning) (key value : ℕ) (p : PlannedPart)
    → IsPlannedPart m (a_catch_all (of_map key value)) p → IsNumbered m (of_shape value)
caught_number m key value (parts.CatchAll (caught.Map k n)) h = (n, h.1)
caught_number m key value (parts.CatchAll p) h = absurd h
caught_number m key value p h = absurd h

-- the selection that is a part of a list, as it is planned
abbrev selection_at : (m : Meaning) (plan : Plan) (is : IsPlanFor m plan) (id : ListId) (n : ℕ)
    → IsNumberOfList m id n → (all : List Part) → m.rules.lists id ≡ Some all → (part : ℕ)
    (s : Selection) → slice_get all part ≡ Some (a_selection s) → IsSelectionAt m plan (n, part) s
selection_at m plan is id n numbered all are part s there =
    let each = is.meaning.lists.each in
    let l = pair_of (IsPlannedList m) m.lists plan.lists.items n id each numbered in
    let same : all ≡ l.2.parts = some_is (sym are ∙ l.2.parts_are) in
    let here = subst (λ xs. slice_get xs part ≡ Some (a_selection s)) same there in
    let planned = l.0.parts.items in
    let y = pair_of (IsPlannedPart m) l.2.parts planned part (a_selection s) l.2.each here in
    let q = planned_selection m s y.0 y.2 in
    record {
      id = id;
      numbered = numbered;
      all = all;
      all_are = are;
      selection_is = there;
      list = l.0;
      list_is = l.1;
      planned = q.0;
      planned_is = y.1 ∙ ap (λ z. Some z) q.1;
      is_planned = q.2;
    }

-- what planned lists say
abbrev pub AreListed : Meaning → Type 0
AreListed m = (id : ListId) (n : ℕ) → IsNumberOfList m id n → (p : PlannedList)
    × IsPlannedList m id p

-- where two readings of a value as a target differ, there is a site
abbrev pub HaveSites : Meaning → Plan → Reads → Type 0
HaveSites m plan reads =
    (t : Target) (n : ℕ) (v : Tree) (r s : Reading) (d : Difference) → IsNumberOf m t n
    → reads t v r → reads t v s → Differ r s d → SiteFrom m plan t d

-- parts of a list, which stand in it from an index on
abbrev StandFrom : List Part → ℕ → List Part → Type 0
StandFrom all i ps = (q : ℕ) (x : Part) → slice_get ps q ≡ Some x → slice_get all (i + q) ≡ Some x

-- all stand from the first on
stand_all : (all : List Part) → StandFrom all 0 all
stand_all all q x at =
    let zero_more : q ≡ 0 + q = omega arith in
    subst (λ k. slice_get all k ≡ Some x) zero_more at

-- the same from the next index on
stand_later : (all : List Part) (i : ℕ) (p : Part) (ps : List Part) → StandFrom all i (p ∷ ps)
    → StandFrom all (i + 1) ps
stand_later all i p ps stand q x at =
    let next : i + suc q ≡ i + 1 + q = omega arith in
    subst (λ k. slice_get all k ≡ Some x) next (stand (suc q) x at)

-- where a difference leads to from a part on
abbrev SiteOn : Meaning → Plan → Part → Difference → Type 0
SiteOn m plan p d =
    (spot : Spot) × LeadsOn m.rules p d.way spot × SiteAt m plan spot d.first d.second

-- so does the list that the part stands in
site_of_part : (m : Meaning) (plan : Plan) (id : ListId) (all : List Part)
    → m.rules.lists id ≡ Some all → (k : ℕ) (p : Part) → slice_get all k ≡ Some p
    → (d : Difference) → SiteOn m plan p d → SiteIn m plan id k d
site_of_part m plan id all are k p at d h =
    record {
      spot = h.0;
      leads = by_part id all k p d.way h.0 are at h.1;
      site = h.2;
    }

module _ (m : Meaning) (depth : ℕ) (o : Object) where
  -- a reading of several parts is one of the first and one of the others
  pub split_first : (p : Part) (ps : List Part) (a : ChoiceAt) (c : Choice)
      → IsDistinct (ChoosesAll m.rules.lists (p ∷ ps))
      → ReadsParts m.rules (ReadsDown m.rules depth) o (p ∷ ps) (next a c)
      → ReadsPart m.rules (ReadsDown m.rules depth) o p a
      × ReadsParts m.rules (ReadsDown m.rules depth) o ps c
  split_first p ps a c distinct h =
      let j = (readings_join m.rules (ReadsDown m.rules depth) o p ps distinct).part (next a c) h in
      let e : next a c ≡ next j.first j.second = j.is_joined in
      let first : j.first ≡ a = cc in
      let second : j.second ≡ c = cc in (
        subst (ReadsPart m.rules (ReadsDown m.rules depth) o p) first j.has_first,
        subst (ReadsParts m.rules (ReadsDown m.rules depth) o ps) second j.has_second,
      )

module _ (m : Meaning) (plan : Plan) (is_for : IsPlanFor m plan) (depth : ℕ) (o : Object)
    (values : HaveSites m plan (ReadsDown m.rules depth)) where
  abbrev W : Reads
  W = ReadsDown m.rules depth

  -- what a planned list says
  abbrev listed : AreListed m
  listed id n at =
      let each = is_for.meaning.lists.each in
      let pair = pair_of (IsPlannedList m) m.lists plan.lists.items n id each at in
      (pair.0, pair.2)

  -- the object is read by the list of a number, as objects come to it
  abbrev Comes : ListId → ℕ → Type 0
  Comes id n = (c : Choice) × ReadsList m.rules W o id c × MustTouchList plan n m.rules o id

  -- a member that is there is read
  read_member : (part : MemberPart) (r : Reading) (v : Option Tree)
      → find o.members part.name ≡ v → ReadsPart m.rules W o (a_member part) (having r)
      → ReadsMember W part v (Some r)
  read_member part r v at h =
      subst (λ x. ReadsMember W part x (Some r)) at
      (subst (Agrees m.rules W o) h.chooses h.agrees).0

  -- what a catch-all takes
  read_rest : (k : CatchAll) (t : Taken) → ReadsPart m.rules W o (a_catch_all k) (taking t)
      → TakesRest m.rules o (Takes m.rules W k) o.members t
  read_rest k t h = (subst (Agrees m.rules W o) h.chooses h.agrees).0.1

  -- two readings of one member
  member_site : (part : MemberPart) → IsNumbered m part.target → (r s : Reading) (d : Difference)
      → Differ r s d → (v : Option Tree) → ReadsMember W part v (Some r)
      → ReadsMember W part v (Some s) → SiteOn m plan (a_member part) (behind into_member d)
  member_site part number r s d h None a b = absurd a
  member_site part number r s d h (Some v) a b =
      let site = values part.target number.0 v r s d number.1 a b h in
      (site.spot, by_member part d.way site.spot site.leads, site.site)

  -- two readings of one member that a catch-all takes
  one_site : (k : CatchAll) (p : PlannedPart) → IsPlannedPart m (a_catch_all k) p → (w : Member)
      (r s : Reading) (d : Difference) → Differ r s d → Takes m.rules W k w r
      → Takes m.rules W k w s → (i : ℕ) → SiteOn m plan (a_catch_all k) (behind (into_taken i) d)
  one_site (of_map key value) p is w r s d h a b i =
      let number = caught_number m key value p is in
      let site = values (of_shape value) number.0 w.value r s d number.1 a.1 b.1 h in
      (site.spot, by_rest key value i d.way site.spot site.leads, site.site)
  one_site of_anything p is w r s d h a b i = absurd (not_same h (a ∙ sym b))

  taken_site : (k : CatchAll) (p : PlannedPart) → IsPlannedPart m (a_catch_all k) p
      → (ms : List Member) (t u : Taken) (i : ℕ) (d : Difference) → DifferTaken t u i d
      → TakesRest m.rules o (Takes m.rules W k) ms t → TakesRest m.rules o (Takes m.rules W k) ms u
      → (j : ℕ) → SiteOn m plan (a_catch_all k) (behind (into_taken j) d)
  taken_site k p is [] _ _ _ _ (first_taken r s t u d h) a b j = absurd a
  taken_site k p is [] _ _ _ _ (behind_taken r s t u i d h) a b j = absurd a
  taken_site k p is [] _ _ _ _ (behind_passed t u i d h) a b j = absurd a
  taken_site k p is (w ∷ ms) _ _ _ _ (first_taken r s t u d h) a b j =
      one_site k p is w r s d h a.1 b.1 j
  taken_site k p is (w ∷ ms) _ _ _ _ (behind_taken r s t u i d h) a b j =
      taken_site k p is ms t u i d h a.2 b.2 j
  taken_site k p is (w ∷ ms) _ _ _ _ (behind_passed t u i d h) a b j =
      taken_site k p is ms t u i d h a.1 b.1 j

  mutual
    -- two readings by parts of one list, from an index on
    parts_site : (c e : Choice) (i : ℕ) (d : Difference) → DifferAt c e i d → (id : ListId) (n : ℕ)
        → IsNumberOfList m id n → Comes id n → (all : List Part) → m.rules.lists id ≡ Some all
        → (from : ℕ)
        → (ps : List Part) (pps : List PlannedPart) → AreInPairs (IsPlannedPart m) ps pps
        → AreDistinct m.rules.lists ps → StandFrom all from ps → ReadsParts m.rules W o ps c
        → ReadsParts m.rules W o ps e → SiteIn m plan id (from + i) d
    parts_site _ _ _ _ (first_part a b c e d h) id n is come all are from [] pps each distinct stand
        x y =
        absurd x.chooses
    parts_site _ _ _ _ (later_part a b c e i d h) id n is come all are from [] pps each distinct
        stand x y =
        absurd x.chooses
    parts_site _ _ _ _ (first_part a b c e d h) id n is come all are from
        (p ∷ ps) [] each distinct stand x y =
        absurd each
    parts_site _ _ _ _ (later_part a b c e i d h) id n is come all are from
        (p ∷ ps) [] each distinct stand x y =
        absurd each
    parts_site _ _ _ _ (first_part a b c e d h) id n is come all are from (p ∷ ps)
        (pp ∷ pps) each distinct stand x y =
        part_site a b d h id n is come all are p pp each.0 (from + 0) (stand zero p refl)
        (split_first m depth o p ps a c distinct.0 x).0
        (split_first m depth o p ps b e distinct.0 y).0
    parts_site _ _ _ _ (later_part a b c e i d h) id n is come all are from (p ∷ ps)
        (pp ∷ pps) each distinct stand x y =
        let next : from + 1 + i ≡ from + (1 + i) = omega arith in
        subst (λ k. SiteIn m plan id k d) next
        (parts_site c e i d h id n is come all are (from + 1) ps pps each.1 distinct.1
        (stand_later all from p ps stand)
        (split_first m depth o p ps a c distinct.0 x).1
        (split_first m depth o p ps b e distinct.0 y).1)

    -- by one part
    part_site : (a b : ChoiceAt) (d : Difference) → DifferPart a b d → (id : ListId) (n : ℕ)
        → IsNumberOfList m id n → Comes id n → (all : List Part) → m.rules.lists id ≡ Some all
        → (p : Part) (pp : PlannedPart) → IsPlannedPart m p pp
        → (at : ℕ) → slice_get all at ≡ Some p → ReadsPart m.rules W o p a
        → ReadsPart m.rules W o p b
        → SiteIn m plan id at d
    part_site _ _ _ (by_branches j k c e ne) id n is come all are
        (a_selection s) pp part at there x y =
        record {
          spot = part_of id at;
          leads = is_part id at;
          site = record {
            number = n;
            selection = s;
            there = selection_at m plan is_for id n is all are at s there;
            id_is = refl;
            first = j;
            second = k;
            first_is = refl;
            second_is = refl;
            differ = ne;
            depth = depth;
            meet = record {
              object = o;
              first_choice = c;
              second_choice = e;
              first_reads = x;
              second_reads = y;
            };
            comes = record {
              id = id;
              numbered = is;
              choice = come.0;
              is_read = come.1;
              touched = come.2;
            };
          };
        }
    part_site _ _ _ (by_branches j k c e ne) id n is come all are
        (a_member w) pp part at there x y =
        absurd x.chooses
    part_site _ _ _ (by_branches j k c e ne) id n is come all are
        (a_catch_all w) pp part at there x y =
        absurd x.chooses
    part_site _ _ _ (in_branch k i c e d h) id n is come all are
        (a_selection s) pp part at there x y =
        let b = x.chooses.chooses in
        let first = list_reads m.rules W o s k b.list b.branch_is k c (refl, x) in
        let second = list_reads m.rules W o s k b.list b.branch_is k e (refl, y) in
        let q = selection_at m plan is_for id n is all are at s there in
        let number = number_of_branch m s.branches q.planned.branches.items q.is_planned.branches k
        b.list b.branch_is
        (record { choice = c; items = first.items; chooses = first.chooses }) in
        let below = touches_below m plan n at s q is_for W o come.2 k number.0 c number.2 x in
        let l = (listed b.list number.0 number.1).1 in
        let zero_more : 0 + i ≡ i = omega arith in
        let site = subst (λ z. SiteIn m plan b.list z d) zero_more
        (parts_site c e i d h b.list number.0 number.1
        (c, first, below) l.parts l.parts_are 0 l.parts
        (listed b.list number.0 number.1).0.parts.items l.each
        (distinct_parts m.rules.lists b.list l.parts l.parts_are l.chosen l.distinct)
        (stand_all l.parts)
        ((readings_of_list m.rules W o b.list l.parts l.parts_are c).1 first)
        ((readings_of_list m.rules W o b.list l.parts l.parts_are e).1 second)) in
        site_of_part m plan id all are at (a_selection s) there
        (behind (into_branch k) (behind (at_part i) d)) (
          site.spot,
          by_branch s k b.list (at_part i ∷ d.way) site.spot b.branch_is site.leads,
          site.site,
        )
    part_site _ _ _ (in_branch k i c e d h) id n is come all are (a_member w) pp part at there x y =
        absurd x.chooses
    part_site _ _ _ (in_branch k i c e d h) id n is come all are
        (a_catch_all w) pp part at there x y =
        absurd x.chooses
    part_site _ _ _ (in_member r s d h) id n is come all are (a_member w) pp part at there x y =
        site_of_part m plan id all are at (a_member w) there (behind into_member d)
        (member_site w (member_number m w pp part) r s d h (find o.members w.name)
        (read_member w r (find o.members w.name) refl x)
        (read_member w s (find o.members w.name) refl y))
    part_site _ _ _ (in_member r s d h) id n is come all are (a_selection w) pp part at there x y =
        absurd x.chooses
    part_site _ _ _ (in_member r s d h) id n is come all are (a_catch_all w) pp part at there x y =
        absurd x.chooses
    part_site _ _ _ (in_taken t u i d h) id n is come all are (a_catch_all w) pp part at there x y =
        site_of_part m plan id all are at (a_catch_all w) there (behind (into_taken i) d)
        (taken_site w pp part o.members t u i d h (read_rest w t x) (read_rest w u y) i)
    part_site _ _ _ (in_taken t u i d h) id n is come all are (a_member w) pp part at there x y =
        absurd x.chooses
    part_site _ _ _ (in_taken t u i d h) id n is come all are (a_selection w) pp part at there x y =
        absurd x.chooses

  -- two readings by one list
  pub list_site : (c e : Choice) (i : ℕ) (d : Difference) → DifferAt c e i d → (id : ListId) (n : ℕ)
      → IsNumberOfList m id n → MustTouchList plan n m.rules o id → ReadsList m.rules W o id c
      → ReadsList m.rules W o id e → SiteIn m plan id i d
  list_site c e i d h id n is touch a b =
      let l = (listed id n is).1 in
      let zero_more : 0 + i ≡ i = omega arith in
      subst (λ z. SiteIn m plan id z d) zero_more
      (parts_site c e i d h id n is (c, a, touch) l.parts l.parts_are 0 l.parts
      (listed id n is).0.parts.items
      l.each (distinct_parts m.rules.lists id l.parts l.parts_are l.chosen l.distinct)
      (stand_all l.parts)
      ((readings_of_list m.rules W o id l.parts l.parts_are c).1 a)
      ((readings_of_list m.rules W o id l.parts l.parts_are e).1 b))
