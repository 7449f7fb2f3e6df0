-- Two readings of one value as one target are the same, or they differ somewhere.
use Rattle.std.proofs.Common.{◌≡◌, ◌⊎◌, inl, inr, refl, sym, ap, ◌∙◌, subst, ⊎_elim, ℕ, zero, suc}
use Rattle.std.proofs.Common.{◌<◌, ◌+◌, List, [], ◌∷◌, arith}
use Rattle.std.proofs.Common.{Option, Some, None, true, false}
use Rattle.std.proofs.Math.Dec.{eqb}
use Rattle.std.proofs.lemmas.Bool.Decides.{eqb_tells}
use Rattle.facet_solver_reader.specs.declared.plan.PlannedPart.{PlannedPart}
use Rattle.facet_solver_reader.specs.Branches.{ReadsList, ReadsPart, ReadsParts}
use Rattle.facet_solver_reader.specs.Choices.{Choice, ChoiceAt, Reading, Readings, Taken, a_variant}
use Rattle.facet_solver_reader.specs.Choices.{an_object, choosing, done, each_of, having, lacking}
use Rattle.facet_solver_reader.specs.Choices.{next, no_readings, none_left, passing, reading, taken}
use Rattle.facet_solver_reader.specs.Choices.{taking, without}
use Rattle.facet_solver_checker.specs.Differing.{Differ, DifferAt, DifferEach, DifferPart}
use Rattle.facet_solver_checker.specs.Differing.{DifferTaken, Difference, at_part, behind}
use Rattle.facet_solver_checker.specs.Differing.{behind_passed, behind_taken, branch, by_alone}
use Rattle.facet_solver_checker.specs.Differing.{by_branches, by_joined, by_variants, first_differ}
use Rattle.facet_solver_checker.specs.Differing.{first_part, first_taken, here, in_branch}
use Rattle.facet_solver_checker.specs.Differing.{in_member}
use Rattle.facet_solver_checker.specs.Differing.{in_object, in_taken, in_values, in_variant}
use Rattle.facet_solver_checker.specs.Differing.{into_branch, into_member, into_taken, into_value}
use Rattle.facet_solver_checker.specs.Differing.{into_variant, joined, later_differ, later_part}
use Rattle.facet_solver_checker.specs.Differing.{variant}
use Rattle.facet_solver_reader.specs.Documents.{Member, Tree}
use Rattle.facet_solver_reader.specs.Known.{HasKey}
use Rattle.facet_solver_reader.specs.Objects.{Agrees, Object, Reads, ReadsMember, Takes}
use Rattle.facet_solver_reader.specs.Objects.{TakesRest, Touches, find}
use Rattle.facet_solver_reader.specs.Parts.{CatchAll, ListId, MemberPart, Part, Selection, Target}
use Rattle.facet_solver_reader.specs.Parts.{a_catch_all, a_member, a_selection, of_anything, of_map}
use Rattle.facet_solver_reader.specs.Parts.{of_shape}
use Rattle.facet_solver_reader.specs.Plans.{AreAskedFirst, AreInPairs, IsNumberOf, IsNumberOfList}
use Rattle.facet_solver_reader.specs.Plans.{IsPlannedPart, Meaning}
use Rattle.facet_solver_reader.specs.Values.{ReadsDown, ReadsEach}
use Rattle.facet_solver_checker.proofs.BothReadings.{AreNumbered, Both, IsNumbered, ReadsPair}
use Rattle.facet_solver_checker.proofs.BothReadings.{are_same, ask, both_readings, of_alone}
use Rattle.facet_solver_checker.proofs.BothReadings.{of_joined}
use Rattle.facet_solver_checker.proofs.BothReadings.{of_member, of_objects, of_one, of_two}
use Rattle.facet_solver_checker.proofs.BothReadings.{of_values}
use Rattle.facet_solver_reader.proofs.ChosenBranch.{can_be_present}
use Rattle.facet_solver_reader.proofs.Distinct.{AreDistinct, distinct_parts}
use Rattle.facet_solver_reader.proofs.Lists.{readings_of_list}
use Rattle.facet_solver_checker.proofs.ObjectSites.{AreListed, caught_number}
use Rattle.facet_solver_checker.proofs.ObjectSites.{member_number}
use Rattle.facet_solver_checker.proofs.ObjectSites.{selection_number, split_first}
use Rattle.facet_solver_reader.proofs.Selections.{known_by_branch, list_reads}
use Rattle.facet_solver_reader.proofs.Unrolling.{inner_down, unrolled}
use Rattle.facet_solver_checker.proofs.ValueSites.{ArePlanned, number_ranks}

-- two readings are the same, or they differ somewhere
abbrev pub EqualOrDiffer : Reading → Reading → Type 0
EqualOrDiffer r s = (r ≡ s) ⊎ ((d : Difference) × Differ r s d)

-- the same of several, of choices, of choices of one part, and of what is taken
abbrev EachEqualOrDiffer : Readings → Readings → Type 0
EachEqualOrDiffer rs ss = (rs ≡ ss) ⊎ ((k : ℕ) × (d : Difference) × DifferEach rs ss k d)

abbrev ChoicesEqualOrDiffer : Choice → Choice → Type 0
ChoicesEqualOrDiffer c e = (c ≡ e) ⊎ ((k : ℕ) × (d : Difference) × DifferAt c e k d)

abbrev PartEqualOrDiffer : ChoiceAt → ChoiceAt → Type 0
PartEqualOrDiffer a b = (a ≡ b) ⊎ ((d : Difference) × DifferPart a b d)

abbrev TakenEqualOrDiffer : Taken → Taken → Type 0
TakenEqualOrDiffer t u = (t ≡ u) ⊎ ((k : ℕ) × (d : Difference) × DifferTaken t u k d)

-- any two readings of a value as a target that has a number
abbrev pub DifferSomewhere : Meaning → Reads → Type 0
DifferSomewhere m reads =
    (t : Target) (n : ℕ) → IsNumberOf m t n → (v : Tree) (r s : Reading) → reads t v r → reads t v s
    → EqualOrDiffer r s

-- by one variant
variants_differ_by : (i : ℕ) (r s : Reading) → EqualOrDiffer r s
    → EqualOrDiffer (a_variant i r) (a_variant i s)
variants_differ_by i r s h =
    ⊎_elim (λ (e : r ≡ s). inl (ap (λ z. a_variant i z) e))
    (λ (p : (d : Difference) × Differ r s d).
    inr (behind (into_variant i) p.0, in_variant i r s p.0 p.1)) h

-- by several values
each_differ : (m : Meaning) (reads : Reads) → DifferSomewhere m reads → (ps : List (Target × Tree))
    → AreNumbered m ps → (rs ss : Readings) → ReadsEach (ReadsPair reads) ps rs
    → ReadsEach (ReadsPair reads) ps ss → EachEqualOrDiffer rs ss
each_differ m reads values [] numbers no_readings no_readings x y = inl refl
each_differ m reads values [] numbers no_readings (reading s ss) x y = absurd y
each_differ m reads values [] numbers (reading r rs) ss x y = absurd x
each_differ m reads values (p ∷ ps) numbers no_readings ss x y = absurd x
each_differ m reads values (p ∷ ps) numbers (reading r rs) no_readings x y = absurd y
each_differ m reads values (p ∷ ps) numbers (reading r rs) (reading s ss) x y =
    ⊎_elim
    (λ (e : r ≡ s).
    ⊎_elim (λ (f : rs ≡ ss). inl (cc))
    (λ (q : (k : ℕ) × (d : Difference) × DifferEach rs ss k d).
    inr (1 + q.0, q.1, later_differ r s rs ss q.0 q.1 q.2))
    (each_differ m reads values ps numbers.1 rs ss x.1 y.1))
    (λ (q : (d : Difference) × Differ r s d). inr (0, q.0, first_differ r s rs ss q.0 q.1))
    (values p.0 numbers.0.0 numbers.0.1 p.1 r s x.0 y.0)

module _ (m : Meaning) (depth : ℕ) (o : Object) (listed : AreListed m)
    (values : DifferSomewhere m (ReadsDown m.rules depth)) where
  abbrev W : Reads
  W = ReadsDown m.rules depth

  -- by one member
  member_differs : (part : MemberPart) → IsNumbered m part.target
      → (r s : Reading) (v : Option Tree)
      → ReadsMember W part v (Some r) → ReadsMember W part v (Some s)
      → PartEqualOrDiffer (having r) (having s)
  member_differs part number r s None a b = absurd a
  member_differs part number r s (Some v) a b =
      ⊎_elim (λ (e : r ≡ s). inl (ap (λ z. having z) e))
      (λ (p : (d : Difference) × Differ r s d).
      inr (behind into_member p.0, in_member r s p.0 p.1))
      (values part.target number.0 number.1 v r s a b)

  -- no member is there and not there
  lacking_having : (part : MemberPart) (r : Reading) → ReadsPart m.rules W o (a_member part) lacking
      → ReadsPart m.rules W o (a_member part) (having r) → ⊥
  lacking_having part r x y =
      go (find o.members part.name)
      (subst (Agrees m.rules W o) x.chooses x.agrees).0
      (subst (Agrees m.rules W o) y.chooses y.agrees).0
    where
      go : (v : Option Tree) → ReadsMember W part v None → ReadsMember W part v (Some r) → ⊥
      go None a b = b
      go (Some v) a b = a

  -- no selection is absent and present
  without_choosing : (s : Selection) (k : ℕ) (c : Choice)
      → ReadsPart m.rules W o (a_selection s) without
      → ReadsPart m.rules W o (a_selection s) (choosing k c) → ⊥
  without_choosing s k c x y =
      ⊎_elim
      (λ (f : s.optional ≡ false). let t : s.optional ≡ true = x.chooses.0 in absurd (cc))
      (λ (t : Touches m.rules o s).
      subst (λ is. HasKey is t.key) x.chooses.1
      (x.known t.key t.has (known_by_branch m.rules.lists s t.key t.known)))
      (can_be_present m.rules W o s k c y)

  -- by one member that a catch-all takes
  one_differs : (k : CatchAll) (p : PlannedPart) → IsPlannedPart m (a_catch_all k) p → (w : Member)
      (r s : Reading) → Takes m.rules W k w r → Takes m.rules W k w s → EqualOrDiffer r s
  one_differs (of_map key value) p is w r s a b =
      let number = caught_number m key value p is in
      values (of_shape value) number.0 number.1 w.value r s a.1 b.1
  one_differs of_anything p is w r s a b = inl (a ∙ sym b)

  -- by what a catch-all takes
  taken_differ : (k : CatchAll) (p : PlannedPart) → IsPlannedPart m (a_catch_all k) p
      → (ms : List Member) (t u : Taken) → TakesRest m.rules o (Takes m.rules W k) ms t
      → TakesRest m.rules o (Takes m.rules W k) ms u → TakenEqualOrDiffer t u
  taken_differ k p is [] none_left none_left a b = inl refl
  taken_differ k p is [] none_left (passing u) a b = absurd b
  taken_differ k p is [] none_left (taken s u) a b = absurd b
  taken_differ k p is [] (passing t) u a b = absurd a
  taken_differ k p is [] (taken r t) u a b = absurd a
  taken_differ k p is (w ∷ ms) none_left u a b = absurd a
  taken_differ k p is (w ∷ ms) (passing t) none_left a b = absurd b
  taken_differ k p is (w ∷ ms) (passing t) (passing u) a b =
      ⊎_elim (λ (e : t ≡ u). inl (ap (λ z. passing z) e))
      (λ (q : (i : ℕ) × (d : Difference) × DifferTaken t u i d).
      inr (1 + q.0, q.1, behind_passed t u q.0 q.1 q.2))
      (taken_differ k p is ms t u a.1 b.1)
  taken_differ k p is (w ∷ ms) (passing t) (taken s u) a b = absurd (b.0 a.0)
  taken_differ k p is (w ∷ ms) (taken r t) none_left a b = absurd b
  taken_differ k p is (w ∷ ms) (taken r t) (passing u) a b = absurd (a.0 b.0)
  taken_differ k p is (w ∷ ms) (taken r t) (taken s u) a b =
      ⊎_elim
      (λ (e : r ≡ s).
      ⊎_elim (λ (f : t ≡ u). inl (cc))
      (λ (q : (i : ℕ) × (d : Difference) × DifferTaken t u i d).
      inr (1 + q.0, q.1, behind_taken r s t u q.0 q.1 q.2))
      (taken_differ k p is ms t u a.2 b.2))
      (λ (q : (d : Difference) × Differ r s d). inr (0, q.0, first_taken r s t u q.0 q.1))
      (one_differs k p is w r s a.1 b.1)

  rest_differs : (k : CatchAll) (p : PlannedPart) → IsPlannedPart m (a_catch_all k) p
      → (t u : Taken) → ReadsPart m.rules W o (a_catch_all k) (taking t)
      → ReadsPart m.rules W o (a_catch_all k) (taking u) → PartEqualOrDiffer (taking t) (taking u)
  rest_differs k p is t u x y =
      ⊎_elim (λ (e : t ≡ u). inl (ap (λ z. taking z) e))
      (λ (q : (i : ℕ) × (d : Difference) × DifferTaken t u i d).
      inr (behind (into_taken q.0) q.1, in_taken t u q.0 q.1 q.2))
      (taken_differ k p is o.members t u (rest_of t x) (rest_of u y))
    where
      rest_of : (t : Taken) → ReadsPart m.rules W o (a_catch_all k) (taking t)
          → TakesRest m.rules o (Takes m.rules W k) o.members t
      rest_of t h = (subst (Agrees m.rules W o) h.chooses h.agrees).0.1

  -- by one branch
  branch_differs : (k : ℕ) (c e : Choice) → ChoicesEqualOrDiffer c e
      → PartEqualOrDiffer (choosing k c) (choosing k e)
  branch_differs k c e h =
      ⊎_elim (λ (f : c ≡ e). inl (ap (λ z. choosing k z) f))
      (λ (q : (i : ℕ) × (d : Difference) × DifferAt c e i d).
      inr (behind (into_branch k) (behind (at_part q.0) q.1), in_branch k q.0 c e q.1 q.2)) h

  -- by the first part or by the others
  next_differ : (a b : ChoiceAt) (c e : Choice) → PartEqualOrDiffer a b → ChoicesEqualOrDiffer c e
      → ChoicesEqualOrDiffer (next a c) (next b e)
  next_differ a b c e h g =
      ⊎_elim
      (λ (f : a ≡ b).
      ⊎_elim (λ (k : c ≡ e). inl (cc))
      (λ (q : (i : ℕ) × (d : Difference) × DifferAt c e i d).
      inr (1 + q.0, q.1, later_part a b c e q.0 q.1 q.2)) g)
      (λ (q : (d : Difference) × DifferPart a b d). inr (0, q.0, first_part a b c e q.0 q.1)) h

  mutual
    -- by parts
    parts_differ : (c e : Choice) (ps : List Part) (pps : List PlannedPart)
        → AreInPairs (IsPlannedPart m) ps pps → AreDistinct m.rules.lists ps
        → ReadsParts m.rules W o ps c → ReadsParts m.rules W o ps e → ChoicesEqualOrDiffer c e
    parts_differ done done ps pps each distinct x y = inl refl
    parts_differ done (next b e) [] pps each distinct x y = absurd y.chooses
    parts_differ done (next b e) (p ∷ ps) pps each distinct x y = absurd x.chooses
    parts_differ (next a c) done [] pps each distinct x y = absurd x.chooses
    parts_differ (next a c) done (p ∷ ps) pps each distinct x y = absurd y.chooses
    parts_differ (next a c) (next b e) [] pps each distinct x y = absurd x.chooses
    parts_differ (next a c) (next b e) (p ∷ ps) [] each distinct x y = absurd each
    parts_differ (next a c) (next b e) (p ∷ ps) (pp ∷ pps) each distinct x y =
        let first = split_first m depth o p ps a c distinct.0 x in
        let second = split_first m depth o p ps b e distinct.0 y in
        next_differ a b c e (part_differs a b p pp each.0 first.0 second.0)
        (parts_differ c e ps pps each.1 distinct.1 first.1 second.1)

    -- by one part
    part_differs : (a b : ChoiceAt) (p : Part) (pp : PlannedPart) → IsPlannedPart m p pp
        → ReadsPart m.rules W o p a → ReadsPart m.rules W o p b → PartEqualOrDiffer a b
    part_differs lacking lacking (a_member w) pp is x y = inl refl
    part_differs lacking (having s) (a_member w) pp is x y = absurd (lacking_having w s x y)
    part_differs lacking b (a_member w) pp is x y = absurd y.chooses
    part_differs lacking b (a_selection w) pp is x y = absurd x.chooses
    part_differs lacking b (a_catch_all w) pp is x y = absurd x.chooses
    part_differs (having r) lacking (a_member w) pp is x y = absurd (lacking_having w r y x)
    part_differs (having r) (having s) (a_member w) pp is x y =
        member_differs w (member_number m w pp is) r s (find o.members w.name)
        (subst (Agrees m.rules W o) x.chooses x.agrees).0
        (subst (Agrees m.rules W o) y.chooses y.agrees).0
    part_differs (having r) b (a_member w) pp is x y = absurd y.chooses
    part_differs (having r) b (a_selection w) pp is x y = absurd x.chooses
    part_differs (having r) b (a_catch_all w) pp is x y = absurd x.chooses
    part_differs without without (a_selection w) pp is x y = inl refl
    part_differs without (choosing k e) (a_selection w) pp is x y =
        absurd (without_choosing w k e x y)
    part_differs without b (a_selection w) pp is x y = absurd y.chooses
    part_differs without b (a_member w) pp is x y = absurd x.chooses
    part_differs without b (a_catch_all w) pp is x y = absurd x.chooses
    part_differs (choosing j c) without (a_selection w) pp is x y =
        absurd (without_choosing w j c y x)
    part_differs (choosing j c) (choosing k e) (a_selection w) pp is x y =
        ⊎_elim
        (λ (f : (eqb j k ≡ true) × (j ≡ k)).
        subst (λ z. PartEqualOrDiffer (choosing j c) (choosing z e)) f.1
        (let b = x.chooses.chooses in
        let first = list_reads m.rules W o w j b.list b.branch_is j c (refl, x) in
        let second = list_reads m.rules W o w j b.list b.branch_is k e (sym f.1, y) in
        let number = selection_number m w pp is j b.list b.branch_is
        (record { choice = c; items = first.items; chooses = first.chooses }) in
        let l = (listed b.list number.0 number.1).1 in
        branch_differs j c e
        (parts_differ c e l.parts (listed b.list number.0 number.1).0.parts.items l.each
        (distinct_parts m.rules.lists b.list l.parts l.parts_are l.chosen l.distinct)
        ((readings_of_list m.rules W o b.list l.parts l.parts_are c).1 first)
        ((readings_of_list m.rules W o b.list l.parts l.parts_are e).1 second))))
        (λ (f : (eqb j k ≡ false) × (j ≡ k → ⊥)).
        inr (here (branch j) (branch k), by_branches j k c e f.1))
        (eqb_tells j k)
    part_differs (choosing j c) b (a_selection w) pp is x y = absurd y.chooses
    part_differs (choosing j c) b (a_member w) pp is x y = absurd x.chooses
    part_differs (choosing j c) b (a_catch_all w) pp is x y = absurd x.chooses
    part_differs (taking t) (taking u) (a_catch_all w) pp is x y = rest_differs w pp is t u x y
    part_differs (taking t) b (a_catch_all w) pp is x y = absurd y.chooses
    part_differs (taking t) b (a_member w) pp is x y = absurd x.chooses
    part_differs (taking t) b (a_selection w) pp is x y = absurd x.chooses

  -- by a list
  list_differs : (c e : Choice) (id : ListId) (n : ℕ) → IsNumberOfList m id n
      → ReadsList m.rules W o id c → ReadsList m.rules W o id e → ChoicesEqualOrDiffer c e
  list_differs c e id n is x y =
      let l = (listed id n is).1 in
      parts_differ c e l.parts (listed id n is).0.parts.items l.each
      (distinct_parts m.rules.lists id l.parts l.parts_are l.chosen l.distinct)
      ((readings_of_list m.rules W o id l.parts l.parts_are c).1 x)
      ((readings_of_list m.rules W o id l.parts l.parts_are e).1 y)

module _ (m : Meaning) (planned : ArePlanned m) (listed : AreListed m)
    (first : AreAskedFirst m.rules m.targets) where
  module _ (depth n : ℕ) (deeper : DifferSomewhere m (ReadsDown m.rules depth))
      (lower : (u : Target) (k : ℕ) → k < n → IsNumberOf m u k → (v : Tree) (r s : Reading)
      → ReadsDown m.rules (suc depth) u v r → ReadsDown m.rules (suc depth) u v s
      → EqualOrDiffer r s) (t : Target) (v : Tree) where
    differ_of_both : (r s : Reading) → Both m (inner_down m.rules depth) n t v r s
        → EqualOrDiffer r s
    differ_of_both _ _ (are_same r s e) = inl e
    differ_of_both _ _ (ask u asks k less number r s a b) = lower u k less number v r s a b
    differ_of_both _ _ (of_one u asks k less number i r s a b) =
        variants_differ_by i r s (lower u k less number v r s a b)
    differ_of_both _ _ (of_member u inside k number w i r s a b) =
        variants_differ_by i r s (deeper u k number w r s a b)
    differ_of_both _ _ (of_two id same i j has_i has_j ne r s) =
        inr (here (variant i) (variant j), by_variants i j r s ne)
    differ_of_both _ _ (of_joined id same j has_i has_j c s) =
        inr (here joined (variant j), by_alone c j s)
    differ_of_both _ _ (of_alone id same i has_i has_j r e) =
        inr (here (variant i) joined, by_joined i r e)
    differ_of_both _ _ (of_values ps numbers inside rs ss a b) =
        ⊎_elim (λ (e : rs ≡ ss). inl (ap (λ z. each_of z) e))
        (λ (q : (k : ℕ) × (d : Difference) × DifferEach rs ss k d).
        inr (behind (into_value q.0) q.1, in_values rs ss q.0 q.1 q.2))
        (each_differ m (ReadsDown m.rules depth) deeper ps numbers rs ss a b)
    differ_of_both _ _ (of_objects id list_is k number o c e a b) =
        ⊎_elim (λ (f : c ≡ e). inl (ap (λ z. an_object z) f))
        (λ (q : (i : ℕ) × (d : Difference) × DifferAt c e i d).
        inr (behind (at_part q.0) q.1, in_object c e q.0 q.1 q.2))
        (list_differs m depth o listed deeper c e id k number a b)

  lower_differ : (depth : ℕ) → DifferSomewhere m (ReadsDown m.rules depth) → (b k : ℕ) → k < b
      → (u : Target) → IsNumberOf m u k → (v : Tree) (r s : Reading)
      → ReadsDown m.rules (suc depth) u v r → ReadsDown m.rules (suc depth) u v s
      → EqualOrDiffer r s
  lower_differ depth deeper zero k less u is v r s x y = absurd (omega arith)
  lower_differ depth deeper (suc b) k less u is v r s x y =
      let ranked = number_ranks m first (suc k) k (omega arith) u is in
      let p = planned u k is in
      differ_of_both depth k deeper
      (λ w j below number. lower_differ depth deeper b j (omega arith) w number) u v r s
      (both_readings m (inner_down m.rules depth) k u p.0 p.1 (λ w asks. first k u w is asks) v r s
      ((unrolled m.rules depth (suc k) u v ranked r).0 x)
      ((unrolled m.rules depth (suc k) u v ranked s).0 y))

  pub differ_somewhere : (depth : ℕ) → DifferSomewhere m (ReadsDown m.rules depth)
  differ_somewhere zero = λ t n is v r s x y. absurd x
  differ_somewhere (suc depth) = λ t n is v r s x y.
      lower_differ depth (differ_somewhere depth) (suc n) n (omega arith) t is v r s x y
