-- Where two sides of a site have a value in common, a place of a settled list has them.
use Rattle.std.proofs.Common.{◌≡◌, ◌⊎◌, inl, inr, refl, sym, ap, ◌∙◌, subst, ⊎_elim, ℕ, zero, suc}
use Rattle.std.proofs.Common.{◌<◌, arith}
use Rattle.std.proofs.Common.{List, ◌∷◌, Some, Any, if◌then◌else◌, length, slice_get}
use Rattle.std.proofs.lemmas.Bool.{le-ltb, lt-ltb}
use Rattle.std.proofs.lemmas.Option.{slice_get_within}
use Rattle.facet_solver_checker.specs.declared.apart.Apart.{Apart}
use Rattle.facet_solver_witnesses.specs.declared.place.Fork.TheVariants as forks
use Rattle.facet_solver_witnesses.specs.declared.place.Place.{Place}
use Rattle.facet_solver_reader.specs.declared.plan.Plan.{Plan}
use Rattle.facet_solver_reader.specs.declared.plan.PlannedEnd.{PlannedEnd}
use Rattle.facet_solver_reader.specs.declared.plan.PlannedEnd.TheVariants as planned
use Rattle.facet_solver_reader.specs.declared.plan.PlannedList.{PlannedList}
use Rattle.facet_solver_reader.specs.declared.plan.PlannedPart.{PlannedPart}
use Rattle.facet_solver_reader.specs.declared.plan.PlannedPart.TheVariants as parts
use Rattle.facet_solver_reader.specs.declared.plan.PlannedSelection.{PlannedSelection}
use Rattle.facet_solver_reader.specs.declared.plan.PlannedTarget.{PlannedTarget}
use Rattle.facet_solver_checker.specs.Differing.{Difference, Side, branch, joined, variant}
use Rattle.facet_solver_checker.specs.Forks.{AllSettled, IsApart, IsBranchAt, IsListed}
use Rattle.facet_solver_checker.specs.Forks.{IsPlanFor, IsSelectionAt}
use Rattle.facet_solver_checker.specs.Forks.{LeavesAll, place_at, side_at, way_at, way_count}
use Rattle.facet_solver_checker.specs.Ambiguity.{IsAt, IsAtEnum, IsAtSelection}
use Rattle.facet_solver_checker.specs.Ambiguity.{IsPlaceOf, StandAt}
use Rattle.facet_solver_checker.specs.Leading.{Spot, enum_of, part_of}
use Rattle.facet_solver_checker.specs.BranchesMeet.{BranchesMeet}
use Rattle.facet_solver_checker.specs.Comes.{ComesTo}
use Rattle.facet_solver_checker.specs.Sites.{HasSide, VariantsMeet}
use Rattle.facet_solver_checker.proofs.Sites.{BranchSite, SiteAt, SiteFrom, VariantSite}
use Rattle.facet_solver_reader.specs.Branches.{ReadsPart}
use Rattle.facet_solver_reader.specs.Choices.{Choice, choosing}
use Rattle.facet_solver_reader.specs.Known.{Chooses, HasChoice}
use Rattle.facet_solver_reader.specs.Objects.{Object, Reads}
use Rattle.facet_solver_reader.specs.Parts.{ListId, Part, Selection, Target, a_selection, of_shape}
use Rattle.facet_solver_reader.specs.Plans.{AreThoseChosen, IsNumberOf, IsNumberOfList}
use Rattle.facet_solver_reader.specs.Plans.{IsPlannedAlternative}
use Rattle.facet_solver_reader.specs.Plans.{IsPlannedEnd, IsPlannedList, IsPlannedName}
use Rattle.facet_solver_reader.specs.Plans.{IsPlannedPart}
use Rattle.facet_solver_reader.specs.Plans.{IsPlannedSelection, IsPlannedTarget, Meaning, chosen}
use Rattle.facet_solver_reader.specs.Plans.{none_left, passed}
use Rattle.facet_solver_reader.specs.Rules as types
use Rattle.facet_solver_reader.specs.Rules.{End, Rules, a_named_variant, an_untagged_variant}
use Rattle.facet_solver_reader.specs.Values.{ReadsDown}
use Rattle.facet_solver_reader.proofs.Pairs.{pair_of, pairs_length}

-- what is there is one thing
some_is : {A : Type 0} {x y : A} → Some x ≡ Some y → x ≡ y
some_is p = cc

-- different numbers are one below the other
below_or_above : (x y : ℕ) → (x ≡ y → ⊥) → (x < y) ⊎ (y < x)
below_or_above x y ne = grind arith

-- some of a list is the one that is listed
listed_as : (P : Place → Type 0) (places : List Place) (place : Place) → IsListed places place
    → P place → Any P places
listed_as P places place h p = (h.0, h.1, h.2, h.3, subst P (sym h.4) p)

-- where a branch that some choice has stands in a list of numbers
stands_at : (m : Meaning) (ids : List ListId) (ns : List ℕ) → AreThoseChosen m ids ns
    → (k : ℕ) (id : ListId) → slice_get ids k ≡ Some id → HasChoice (Chooses m.rules.lists id)
    → (x : ℕ) × (n : ℕ) × (slice_get ns x ≡ Some n) × IsNumberOfList m id n
stands_at m _ _ none_left k id at some = absurd (cc)
stands_at m _ _ (chosen a ids n ns is rest) zero id at some =
    let same : a ≡ id = cc in (0, n, refl, subst (λ x. IsNumberOfList m x n) same is)
stands_at m _ _ (chosen a ids n ns is rest) (suc k) id at some =
    let h = stands_at m ids ns rest k id at some in (suc h.0, h.1, h.2, h.3)
stands_at m _ _ (passed a ids ns none rest) zero id at some =
    let same : id ≡ a = cc in
    absurd (none (subst (λ x. HasChoice (Chooses m.rules.lists x)) same some))
stands_at m _ _ (passed a ids ns none rest) (suc k) id at some =
    stands_at m ids ns rest k id at some

-- where two branches stand, the earlier one first
pub record StandInOrder (m : Meaning) (ns : List ℕ) (a b : ListId) : Type 0 where
  pub first : ℕ
  pub second : ℕ
  pub less : first < second
  pub first_number : ℕ
  pub second_number : ℕ
  pub first_is : slice_get ns first ≡ Some first_number
  pub second_is : slice_get ns second ≡ Some second_number
  pub first_numbered : IsNumberOfList m a first_number
  pub second_numbered : IsNumberOfList m b second_number

-- the same with one number before all
one_later : (m : Meaning) (n : ℕ) (ns : List ℕ) (a b : ListId) → StandInOrder m ns a b
    → StandInOrder m (n ∷ ns) a b
one_later m n ns a b h = record {
  first = suc h.first;
  second = suc h.second;
  less = let l = h.less in omega (arith, l);
  first_number = h.first_number;
  second_number = h.second_number;
  first_is = h.first_is;
  second_is = h.second_is;
  first_numbered = h.first_numbered;
  second_numbered = h.second_numbered;
}

stand_in_order : (m : Meaning) (ids : List ListId) (ns : List ℕ) → AreThoseChosen m ids ns
    → (j k : ℕ) → j < k → (a b : ListId) → slice_get ids j ≡ Some a → slice_get ids k ≡ Some b
    → HasChoice (Chooses m.rules.lists a) → HasChoice (Chooses m.rules.lists b)
    → StandInOrder m ns a b
stand_in_order m _ _ none_left j k less a b at_a at_b some_a some_b = absurd (cc)
stand_in_order m _ _ (chosen d ids n ns is rest) j zero less a b at_a at_b some_a some_b =
    absurd (omega arith)
stand_in_order m _ _ (chosen d ids n ns is rest) zero (suc k) less a b at_a at_b some_a some_b =
    let same : d ≡ a = cc in
    let h = stands_at m ids ns rest k b at_b some_b in
    record {
      first = 0;
      second = suc h.0;
      less = omega arith;
      first_number = n;
      second_number = h.1;
      first_is = refl;
      second_is = h.2;
      first_numbered = subst (λ x. IsNumberOfList m x n) same is;
      second_numbered = h.3;
    }
stand_in_order m _ _ (chosen d ids n ns is rest) (suc j) (suc k) less a b at_a at_b some_a some_b =
    one_later m n ns a b
    (stand_in_order m ids ns rest j k (omega arith) a b at_a at_b some_a some_b)
stand_in_order m _ _ (passed d ids ns none rest) j zero less a b at_a at_b some_a some_b =
    absurd (omega arith)
stand_in_order m _ _ (passed d ids ns none rest) zero (suc k) less a b at_a at_b some_a some_b =
    let same : a ≡ d = cc in
    absurd (none (subst (λ x. HasChoice (Chooses m.rules.lists x)) same some_a))
stand_in_order m _ _ (passed d ids ns none rest) (suc j) (suc k) less a b at_a at_b some_a some_b =
    stand_in_order m ids ns rest j k (omega arith) a b at_a at_b some_a some_b

-- two branches that read one object, the other way round
abbrev swapped : (rules : Rules) (reads : Reads) (s : Selection) (j k : ℕ)
    → BranchesMeet rules reads s j k → BranchesMeet rules reads s k j
swapped rules reads s j k h = record {
  object = h.object;
  first_choice = h.second_choice;
  second_choice = h.first_choice;
  first_reads = h.second_reads;
  second_reads = h.first_reads;
}

-- two variants that read one value, the other way round
exchanged : (reads : Reads) (t : Target) (a b : Side) → VariantsMeet reads t a b
    → VariantsMeet reads t b a
exchanged reads t a b h = record {
  value = h.value;
  first = h.second;
  second = h.first;
  first_reads = h.second_reads;
  second_reads = h.first_reads;
  first_takes = h.second_takes;
  second_takes = h.first_takes;
}

-- the way of a side of an enum
pub record IsWayOf (p : PlannedEnd) (a : Side) : Type 0 where
  pub index : ℕ
  pub within : index < way_count p
  pub side : side_at p index ≡ a

way_inside : (count index : ℕ) → index < count → way_at count index ≡ variant index
way_inside count index less =
    ap (λ b. if b then variant index else joined) (lt-ltb index count less)

way_behind : (count : ℕ) → way_at count count ≡ joined
way_behind count = ap (λ b. if b then variant count else joined) (le-ltb count count (omega arith))

module _ (m : Meaning) where
  named_way : (vs : List types.NamedVariant) (p : PlannedEnd) (a : Side)
      → IsPlannedEnd m (a_named_variant vs) p → HasSide (a_named_variant vs) a → IsWayOf p a
  named_way vs (planned.Named ps) (variant k) h has =
      let same = pairs_length (IsPlannedName m) vs ps.items h in
      record { index = k; within = omega (arith, same, has); side = refl }
  named_way vs (planned.Named ps) (branch k) h has = absurd has
  named_way vs (planned.Named ps) joined h has = absurd has
  named_way vs p a h has = absurd h

  untagged_way : (list : ListId) (alone : List types.Alternative) (p : PlannedEnd) (a : Side)
      → IsPlannedEnd m (an_untagged_variant list alone) p
      → HasSide (an_untagged_variant list alone) a → IsWayOf p a
  untagged_way list alone (planned.Untagged o ps) (variant k) h has =
      let same = pairs_length (IsPlannedAlternative m) alone ps.items h.1 in
      let inside : k < length ps.items = omega (arith, same, has) in
      record {
        index = k;
        within = omega (arith, inside);
        side = way_inside (length ps.items) k inside;
      }
  untagged_way list alone (planned.Untagged o ps) joined h has =
      record {
        index = length ps.items;
        within = omega arith;
        side = way_behind (length ps.items);
      }
  untagged_way list alone (planned.Untagged o ps) (branch k) h has = absurd has
  untagged_way list alone p a h has = absurd h

  way_of : (e : End) (p : PlannedEnd) (a : Side) → IsPlannedEnd m e p → HasSide e a → IsWayOf p a
  way_of (a_named_variant vs) p a h has = named_way vs p a h has
  way_of (an_untagged_variant list alone) p a h has = untagged_way list alone p a h has
  way_of e p a h has = absurd has

-- a branch that reads an object has a choice
branch_chooses : (rules : Rules) (reads : Reads) (o : Object) (s : Selection) (j : ℕ) (c : Choice)
    → ReadsPart rules reads o (a_selection s) (choosing j c)
    → (b : ListId) × (slice_get s.branches j ≡ Some b) × HasChoice (Chooses rules.lists b)
branch_chooses rules reads o s j c r =
    let x = r.chooses.chooses in (
      x.list,
      x.branch_is,
      record { choice = c; items = r.chooses.of_branch; chooses = x.chooses },
    )

module _ (m : Meaning) (plan : Plan) (apart : Apart) (places : List Place) (is : IsPlanFor m plan)
    (leaves : LeavesAll m apart) (settled : AllSettled plan apart places) where
  -- a place that is listed has the two ways
  abbrev HaveListed : Spot → Side → Side → Type 0
  HaveListed spot a b =
      Any (IsAt m plan (record { spot = spot; first = a; second = b })) places

  -- two branches, the earlier one first
  module _ (number part : ℕ) (s : Selection) (there : IsSelectionAt m plan (number, part) s) where
    at_selection : (x y : ℕ) (a b : Side) → StandAt (IsBranchAt m s there.planned) (x, y) a b
        → IsAtSelection m plan (number, part) (x, y)
        (record { spot = part_of there.id part; first = a; second = b })
    at_selection x y a b stand =
        record { selection = s; there = there; spot_is = refl; stand = stand }

    in_order : (j k d : ℕ) → j < k → (meet : BranchesMeet m.rules (ReadsDown m.rules d) s j k)
        → ComesTo m plan (ReadsDown m.rules d) number meet.object
        → HaveListed (part_of there.id part) (branch j) (branch k)
        × HaveListed (part_of there.id part) (branch k) (branch j)
    in_order j k d less meet comes =
        let reads = ReadsDown m.rules d in
        let a = branch_chooses m.rules reads meet.object s j meet.first_choice meet.first_reads in
        let b = branch_chooses m.rules reads meet.object s k meet.second_choice meet.second_reads in
        let h = stand_in_order m s.branches there.planned.branches.items there.is_planned.branches j
        k less a.0 b.0 a.1 b.1 a.2 b.2 in
        let fork = forks.Selection number part in
        let place = place_at fork h.first h.second in
        let spot = part_of there.id part in
        let first : IsBranchAt m s there.planned h.first (branch j) =
        record {
          index_of = j;
          side = refl;
          list = a.0;
          is_branch = a.1;
          number = h.first_number;
          stands = h.first_is;
          numbered = h.first_numbered;
        } in
        let second : IsBranchAt m s there.planned h.second (branch k) =
        record {
          index_of = k;
          side = refl;
          list = b.0;
          is_branch = b.1;
          number = h.second_number;
          stands = h.second_is;
          numbered = h.second_numbered;
        } in
        ⊎_elim
        (λ (apart_here : IsApart plan apart place).
        absurd (apart_here m is leaves d
        (record {
          selection = s;
          there = there;
          j = j;
          k = k;
          first = first;
          second = second;
          meet = meet;
          comes = comes;
        })))
        (λ (listed : IsListed places place). (
          listed_as
              (IsAt m plan (record { spot = spot; first = branch j; second = branch k })) places
              place listed (at_selection h.first h.second (branch j) (branch k)
              (inl (first, second))),
          listed_as
              (IsAt m plan (record { spot = spot; first = branch k; second = branch j })) places
              place listed (at_selection h.first h.second (branch k) (branch j)
              (inr (first, second))),
        ))
        (settled fork (length there.planned.branches.items)
        (there.list, there.list_is, (parts.Selection there.planned, there.planned_is, refl))
        h.first h.second h.less
        (slice_get_within there.planned.branches.items h.second h.second_number h.second_is))

  branches_listed : (id : ListId) (part : ℕ) (a b : Side) → BranchSite m plan id part a b
      → HaveListed (part_of id part) a b
  branches_listed id part a b h =
      subst (λ z. HaveListed (part_of z part) a b) h.id_is
      (subst (λ z. HaveListed (part_of h.there.id part) z b) (sym h.first_is)
      (subst (λ z. HaveListed (part_of h.there.id part) (branch h.first) z) (sym h.second_is) go))
    where
      go : HaveListed (part_of h.there.id part) (branch h.first) (branch h.second)
      go =
          ⊎_elim
          (λ (less : h.first < h.second).
          (in_order h.number part h.selection h.there h.first h.second h.depth less h.meet
          h.comes).0)
          (λ (less : h.second < h.first).
          (in_order h.number part h.selection h.there h.second h.first h.depth less
          (swapped m.rules (ReadsDown m.rules h.depth) h.selection h.first h.second h.meet)
          h.comes).1)
          (below_or_above h.first h.second h.differ)

  -- two variants, the earlier way first
  module _ (shape number : ℕ) (numbered : IsNumberOf m (of_shape shape) number)
      (p : PlannedTarget) (p_is : slice_get plan.targets.items number ≡ Some p) where
    at_enum : (x y : ℕ) (c e : Side) → StandAt (λ i z. side_at p.end i ≡ z) (x, y) c e
        → IsAtEnum m plan number (x, y)
        (record { spot = enum_of shape; first = c; second = e })
    at_enum x y c e stand = record {
      shape = shape;
      spot_is = refl;
      numbered = numbered;
      planned = p;
      planned_is = p_is;
      stand = stand;
    }

    ways_in_order : (a b : Side) (x y d : ℕ) → x < y → y < way_count p.end
        → side_at p.end x ≡ a → side_at p.end y ≡ b
        → VariantsMeet (ReadsDown m.rules d) (of_shape shape) a b
        → HaveListed (enum_of shape) a b × HaveListed (enum_of shape) b a
    ways_in_order a b x y d less within first second meet =
        let fork = forks.Enum number in
        let place = place_at fork x y in
        let reads = ReadsDown m.rules d in
        let t = of_shape shape in
        let spot = enum_of shape in
        let there : VariantsMeet reads t (side_at p.end x) (side_at p.end y) =
        subst (λ z. VariantsMeet reads t z (side_at p.end y)) (sym first)
        (subst (λ z. VariantsMeet reads t a z) (sym second) meet) in
        ⊎_elim
        (λ (apart_here : IsApart plan apart place).
        absurd (apart_here m is t p d numbered p_is leaves there))
        (λ (listed : IsListed places place). (
          listed_as (IsAt m plan (record { spot = spot; first = a; second = b })) places place
              listed
              (at_enum x y a b (inl (first, second))),
          listed_as (IsAt m plan (record { spot = spot; first = b; second = a })) places place
              listed
              (at_enum x y b a (inr (first, second))),
        ))
        (settled fork (way_count p.end) (p, p_is, refl) x y less within)

  variants_listed : (shape : ℕ) (a b : Side) → VariantSite m shape a b
      → HaveListed (enum_of shape) a b
  variants_listed shape a b h =
      let t = pair_of (IsPlannedTarget m) m.targets plan.targets.items h.number (of_shape shape)
      is.each_target h.numbered in
      let e = m.rules.end_of shape in
      let x = way_of m e t.0.end a t.2.end h.has_first in
      let y = way_of m e t.0.end b t.2.end h.has_second in
      let reads = ReadsDown m.rules h.depth in
      let other : x.index ≡ y.index → ⊥ =
      λ same. h.differ (sym x.side ∙ (ap (side_at t.0.end) same ∙ y.side)) in
      ⊎_elim
      (λ (less : x.index < y.index).
      (ways_in_order shape h.number h.numbered t.0 t.1 a b x.index y.index h.depth less y.within
      x.side y.side h.meet).0)
      (λ (less : y.index < x.index).
      (ways_in_order shape h.number h.numbered t.0 t.1 b a y.index x.index h.depth less x.within
      y.side x.side (exchanged reads (of_shape shape) a b h.meet)).1)
      (below_or_above x.index y.index other)

  -- a site
  pub site_listed : (spot : Spot) (a b : Side) → SiteAt m plan spot a b → HaveListed spot a b
  site_listed (part_of id part) a b h = branches_listed id part a b h
  site_listed (enum_of shape) a b h = variants_listed shape a b h

  -- and where a difference leads to from a target
  pub difference_listed : (t : Target) (d : Difference) → SiteFrom m plan t d
      → Any (λ place. IsPlaceOf m plan t place d) places
  difference_listed t d h =
      let some = site_listed h.spot d.first d.second h.site in (
        some.0,
        some.1,
        some.2,
        some.3,
        record { spot = h.spot; leads = h.leads; is_at = some.4 },
      )
